-- The twelve worked examples hold, by computation. Assumes nothing.
use mathlib.Core.Path.{refl, sym}
use borrow.Author.Tests.{ne_eqb}
use Rattle.pec.specs.Pec.{top_bit, shift, shifts, remainder, step, pec_from}
use Rattle.line.specs.Digits.{digit_val, all_digits, pair_val, values_of}
use Rattle.line.specs.Reading.{line_of, bad_pairs, some_to32, head_ok, body_ok, form_ok, length_right, crc_right, form_right, read_values, read_digits, read_line}
use Rattle.image.specs.Says.{word, crc_of}
use Rattle.bus.specs.Bus.{eight, read_address, read_of}
use Rattle.bus.specs.ReplyForm.{word_at, sealed_of, read_form, done_form, form_of}
use Rattle.text.specs.Text.{bytes_of}
use Rattle.vectors.specs.Examples.{ExampleHolds, twelve, AllHold}

pub examples_hold : AllHold twelve
unfolding AllHold ExampleHolds bytes_of read_line read_digits read_values all_digits values_of pair_val digit_val bad_pairs length_right crc_right form_right form_ok head_ok body_ok some_to32 line_of crc_of word form_of done_form read_form sealed_of word_at read_address read_of eight pec_from step remainder shifts shift top_bit
examples_hold = (
  refl,
  (
    refl,
    (
      refl,
      (
        refl,
        (
          (refl, refl),
          (
            refl,
            (
              (_, refl, refl, refl),
              (
                (_, refl, refl, refl),
                (
                  (_, refl, refl, refl),
                  (
                    (_, refl, refl, refl),
                    (
                      (refl, λ x h. rw (ne_eqb 0x6A x (λ e. h (sym e)))),
                      ((refl, λ x h. rw (ne_eqb 0x3C x (λ e. h (sym e)))), tt),
                    ),
                  ),
                ),
              ),
            ),
          ),
        ),
      ),
    ),
  ),
)
