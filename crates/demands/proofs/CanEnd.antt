-- The demands are not empty: for every file that meets the document and allowed settings there are replies with which the session ends
-- DONE with the burn put out. Assumes nothing.
use mathlib.Core.Path.{◌≡◌, refl, sym, ap, ◌∙◌}
use mathlib.Core.List.Memᴰ
use mathlib.Core.List.{List, [], ◌∷◌, ◌++◌, Memᴰ}
use Prim.Native.Nat.{ℕ, ◌≤◌, ◌<◌}
use native.Mathlib.Omega.{arith}
use Rattle.summary.specs.declared.Summary.{Summary}
use Rattle.image.specs.Check.{check_of}
use Rattle.image.specs.Meets.{Meets}
use Rattle.image.proofs.SummarySays.{summary_says}
use Rattle.bus.specs.declared.Request.{Request}
use Rattle.bus.specs.Bus.{write_of}
use Rattle.guide.specs.Terms.{Terms}
use Rattle.guide.specs.Wire.{RightAt, in_use, burn_to}
use Rattle.guide.proofs.LineBytes.{in_use_lem}
use Rattle.guide.specs.Plan.{Reply}
use Rattle.guide.specs.Guide.{crc_in, write_lines_of}
use Rattle.guide.specs.Matched.{Exchange, Heard, asked_in}
use Rattle.guide.specs.Course.{heard3, heard4, heard6, configs_in, content_of, Said, Now, over, shown, opened, Reported, DONE, Course, judged}
use Rattle.guide.proofs.Banks.{ones, ones_small, ones_right}
use Rattle.session.specs.declared.Settings.{Settings}
use Rattle.session.specs.Terms.{keeping}
use Rattle.session.specs.declared.Handed.{Handed}
use Rattle.demands.specs.Runs.{BegunFor}
use Rattle.demands.specs.Headline.{Allowed, Keeps}
use Rattle.demands.specs.Demands.{OfBytes, CanEnd, content_in, report_for}
use Rattle.demands.proofs.SettingsSay.{kept_few}
use Rattle.demands.proofs.PremisesGive.{facts}
use Rattle.demands.proofs.BurnIsLast.{burn_is_last}
use Rattle.demands.proofs.ContentIs.{crc_is, lines_are_lem, content_is}
use Rattle.demands.proofs.Demand2.{premises, demand2}
use Rattle.demands.proofs.FittingDevice.{counter_is, fitting, word_lt, fitting_words}
use Rattle.demands.proofs.RepliesInForm.{Able, and, able_both, able_answered, can_write, can_read, able_opening, able_lines, able_crcs}

-- ---- what some exchanges ask

pub asked_both : (xs ys : List Exchange) → asked_in (xs ++ ys) ≡ asked_in xs ++ asked_in ys
unfolding asked_in
asked_both [] ys = refl
asked_both (x ∷ xs) ys = ap (λ (l : List Request). x.request ∷ l) (asked_both xs ys)

lines_asked : (qs : List Request) → asked_in (heard3 qs) ≡ qs
unfolding asked_in heard3
lines_asked [] = refl
lines_asked (q ∷ qs) = ap (λ (l : List Request). q ∷ l) (lines_asked qs)

-- a line among those of step 3 is asked
line_asked_lem : {q : Request} (first : List Exchange) (lines : List Request) (rest : List Exchange) → Memᴰ q lines → Memᴰ q (asked_in (first ++ (heard3 lines ++ rest)))
line_asked_lem first lines rest x =
    rw (asked_both first (heard3 lines ++ rest), asked_both (heard3 lines) rest, lines_asked lines)
    (Memᴰ.append_right (asked_in first) (Memᴰ.append_left (asked_in rest) x))

module _ (S : Settings) {kept : ℕ} (r : Keeps S.rule kept) {text : List ℕ} (m : Meets text) (a : Allowed (keeping kept S)) where
  abbrev T : Terms
  T = keeping kept S

  abbrev file : Summary
  file = (check_of text).summary

  right : RightAt S.address (in_use S.address)
  right = in_use_lem S.address

  few : file.configs ≤ 8
  few = (facts (premises S r m a)).few

  identity-lt : file.identity < 4294967296
  identity-lt = rw (summary_says m).identity (word_lt text m 1 0 1 2 3)

  crc-lt : (N : ℕ) → N < file.configs → crc_in file N < 4294967296
  crc-lt N h = let k = (summary_says m).configs in rw (crc_is m N (omega arith)) (word_lt text m _ 3 2 1 0)

  -- the words of a device that the file fits, a status that passes at once, and banks that are right
  w : Said
  w = record { captured = 0; read = fitting_words file; busy = []; last = 1; banks = ones file.configs }

  abbrev all : List Exchange
  all = shown T (content_of T.address file text) w (heard6 T (configs_in file file.configs 0))

  able : Able all
  unfolding write_of heard4 w
  able =
      able_both (able_opening S.address S.wanted (fitting_words file) (omega (arith, counter_is file.kind)) identity-lt (omega arith) (omega arith))
      (able_both (able_lines S.address (write_lines_of text))
      (and (can_write _ _) (and (can_read S.address 1 (omega arith)) (and (can_write _ _)
      (and (can_read S.address (ones file.configs) (ones_small file.configs 8 few))
      (able_crcs T file file.configs 0 (λ i h. crc-lt i (omega arith))))))))

  rs : List Reply
  rs = (able_answered able).0

  heard : Heard all rs []
  unfolding rs
  heard = (able_answered able).1

  possible : (r : Reply) → Memᴰ r rs → OfBytes r
  unfolding rs
  possible = (able_answered able).2

  reported : Reported T (content_of T.address file text) w
  unfolding w
  reported =
      record {
        programmed =
            record {
              fitting =
                  record {
                    fits = fitting file kept (omega (arith, few, kept_few r));
                    polling = record { clear = λ i h. absurd (let y : ⊥ = omega arith in y); within = a.some };
                  };
              passed = refl;
            };
        right = ones_right file.configs;
      }

  goes : Course T (content_in (in_use S.address) m) rs (over 0 0) (asked_in all)
  goes = rw (content_is m right) at (judged all [] 0 0 heard (DONE w reported))

  -- the burn is among the lines
  burn_asked : Memᴰ (burn_to S.address) (asked_in all)
  burn_asked =
      let last = burn_is_last right m in
      let lines = lines_are_lem m right ∙ last.1 in
      line_asked_lem (opened T (content_of T.address file text) w) _ _ (rw lines (Memᴰ.append_right last.0 (Memᴰ.head refl)))

  pub can_end : {h : Handed} → BegunFor S text h → CanEnd S text h
  can_end b =
      let d = demand2 S right r m a rs b in
      let o = d.only (over 0 0) (asked_in all) goes in
      record {
        replies = rs;
        possible = possible;
        done = d.tells ∙ ap (λ (x : Now). report_for x) (sym o.0);
        burned = rw o.1 at burn_asked;
      }
