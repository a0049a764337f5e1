-- What a line that has its form says, by its bytes. Assumes nothing.
use mathlib.Core.Path.{◌≡◌, sym, ap, ◌∙◌}
use mathlib.Core.Bool.{true}
use mathlib.Core.List.{List}
use Prim.Native.Nat.{ℕ, ◌+◌, ◌-◌, ◌%◌, ◌≤◌}
use native.Mathlib.Omega.{arith}
use lib.Dec.{eqb}
use lib.ListN.{length, get_or}
use borrow.Author.Tests.{eqb-true}
use Rattle.counts.specs.Counts.{config_id}
use Rattle.line.specs.Reading.{data_of, line_of, byte}
use Rattle.line.specs.LineForm.{LineForm}
use Rattle.promise.proofs.Basics.{and_true}
use Rattle.line.proofs.LineParts.{slice_get}
use Rattle.line.proofs.Rows.{row_count, row_by}
use Rattle.line.proofs.GoodExactly.{form-length}
use Rattle.image.specs.Says.{word, identity_of, id_of, crc_of}
use Rattle.summary.specs.Burn.{is_burn}
use Rattle.image.specs.Tests.{known_device}
use Rattle.image.specs.Parts.{parts}
use Rattle.image.specs.Meets.{command_in, data_in, Accepts29, BurnBytes}
use Rattle.promise.specs.Lists.{is_in}
use Rattle.promise.proofs.Members.{in_list, list_in}

data_at : (v : List ℕ) (i : ℕ) → 6 + i ≤ length v → get_or (data_of v) i 0 ≡ data_in i v
data_at v i h = slice_get v 4 (length v - 1) i (omega arith)

module _ {n : ℕ} {v : List ℕ} (f : LineForm n v) where
  command_is : command_in v ≡ f.command
  command_is = ap (λ (l : List ℕ). get_or l 3 0) f.bytes

  data_some : 6 ≤ length v
  data_some = omega (arith, form-length f, (row_count f.row).0)

  data_head : n ≤ 2 → length v ≡ 9
  data_head h = omega (arith, form-length f, (row_by f.row).head h)

  data_c6 : command_in v ≡ 0xC6 → length v ≡ 9
  data_c6 e = omega (arith, form-length f, (row_by f.row).c6 (sym command_is ∙ e))

  data_e7 : command_in v ≡ 0xE7 → length v ≡ 7
  data_e7 e = omega (arith, form-length f, (row_by f.row).e7 (sym command_is ∙ e))

  -- ---- the numbers

  pub first_is : byte (line_of v) 0 ≡ data_in 0 v
  unfolding line_of
  first_is = data_at v 0 data_some

  pub id_is : id_of (line_of v) ≡ config_id (data_in 0 v % 16)
  unfolding id_of
  id_is = rw first_is

  four : length v ≡ 9 → (i : ℕ) → i ≤ 3 → get_or (data_of v) i 0 ≡ data_in i v
  four e i h = data_at v i (omega arith)

  pub identity_is : n ≤ 2 → identity_of (line_of v) ≡ word (data_in 0 v) (data_in 1 v) (data_in 2 v) (data_in 3 v)
  unfolding identity_of line_of
  identity_is h =
      let at = four (data_head h) in
      rw (at 0 (omega arith), at 1 (omega arith), at 2 (omega arith), at 3 (omega arith))

  pub crc_is : command_in v ≡ 0xC6 → crc_of (line_of v) ≡ word (data_in 3 v) (data_in 2 v) (data_in 1 v) (data_in 0 v)
  unfolding crc_of line_of
  crc_is e =
      let at = four (data_c6 e) in
      rw (at 0 (omega arith), at 1 (omega arith), at 2 (omega arith), at 3 (omega arith))

  -- ---- the burn

  pub burn_bytes : is_burn (line_of v) ≡ true → BurnBytes v
  unfolding is_burn line_of
  burn_bytes e =
      let p = and_true (eqb (command_in v) 0xE7) _ e in
      let q = and_true (eqb (get_or (data_of v) 0 0) 0x08) (eqb (get_or (data_of v) 1 0) 0x00) p.1 in
      let command : command_in v ≡ 0xE7 = eqb-true (command_in v) 0xE7 p.0 in
      let size = data_e7 command in
      record {
        command = command;
        low = sym (data_at v 0 (omega arith)) ∙ eqb-true _ 0x08 q.0;
        high = sym (data_at v 1 (omega arith)) ∙ eqb-true _ 0x00 q.1;
      }

  pub bytes_burn : BurnBytes v → is_burn (line_of v) ≡ true
  unfolding is_burn line_of
  bytes_burn b =
      let size = data_e7 b.command in
      rw (b.command, data_at v 0 (omega arith), data_at v 1 (omega arith), b.low, b.high)

  -- ---- the device

  pub known_bytes : n ≤ 2 → known_device (line_of v) ≡ true → Accepts29 v
  unfolding known_device line_of
  known_bytes h e =
      let at = four (data_head h) in
      let d = data_of v in
      let p = and_true (eqb (get_or d 0 0) 0x49) _ e in
      let q = and_true (eqb (get_or d 1 0) 0xD2) _ p.1 in
      let r = and_true (eqb (get_or d 3 0) 0x00) (is_in (get_or d 2 0) parts) q.1 in
      record {
        first = sym (at 0 (omega arith)) ∙ eqb-true _ 0x49 p.0;
        second = sym (at 1 (omega arith)) ∙ eqb-true _ 0xD2 q.0;
        middle = rw (at 2 (omega arith)) at (in_list (get_or d 2 0) parts r.1);
        last = sym (at 3 (omega arith)) ∙ eqb-true _ 0x00 r.0;
      }

  pub bytes_known : n ≤ 2 → Accepts29 v → known_device (line_of v) ≡ true
  unfolding known_device line_of
  bytes_known h a =
      let at = four (data_head h) in
      rw (at 0 (omega arith), at 1 (omega arith), at 2 (omega arith), at 3 (omega arith), a.first, a.second, a.last) (list_in a.middle)
