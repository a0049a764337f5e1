-- Regulators at other addresses (document 02, R-2): every request goes to the address in use; at C0 all is as document 01 has it; and some
-- requests elsewhere, byte by byte. Assumes nothing.
use Rattle.std.specs.Prelude.{◌≡◌, true, false, ℕ, ◌+◌, get_or, take}
use mathlib.Core.List.{List, Memᴰ}
use Rattle.pec.specs.Pec.{pec}
use Rattle.image.specs.Meets.{Meets}
use Rattle.bus.specs.declared.Request.{Request}
use Rattle.guide.specs.Requests.{point_to, read_data, read_block}
use Rattle.guide.specs.Wire.{burn_to, as_they_stand}
use Rattle.guide.specs.Plan.{Reply}
use Rattle.session.specs.declared.Settings.{Settings}
use Rattle.session.specs.declared.Handed.{Handed}
use Rattle.session.specs.Terms.{keeping}
use Rattle.demands.specs.Headline.{Allowed, Keeps}
use Rattle.demands.specs.Rules.{SessionHeadline, Demanded}
use Rattle.demands.specs.Asked.{writes2, asks}

-- ---- a request for a device: its address stands first, and in a read one more stands third; a write ends with its own PEC, so that a device
-- that runs the code over all the bytes it gets, the last included, is left with 0
pub record GoesTo (address : ℕ) (q : Request) : Type 0 where
  pub first : get_or q.bytes 0 0 ≡ address
  pub third : q.reads ≡ true → get_or q.bytes 2 0 ≡ address + 1
  pub closed : q.reads ≡ false → pec (take q.used q.bytes) ≡ 0

-- of what was put out: every request is for the device in use, so none burns a device at another address
pub record ToTheAddress (address : ℕ) (out : List Request) : Type 0 where
  pub every : (q : Request) → Memᴰ q out → GoesTo address q
  pub nowhere : (other : ℕ) → Memᴰ (burn_to other) out → other ≡ address

-- ---- at C0 the headline and demands 2 and 3 hold with the lines as they stand and the burn C0 E7 08 00 DA
pub record AtC0 (S : Settings) (text : List ℕ) (h : Handed) (rs : List Reply) : Type 0 where
  pub headline : SessionHeadline as_they_stand S text h rs
  pub demanded : (m : Meets text) (kept : ℕ) → Keeps S.rule kept → Allowed (keeping kept S) → Demanded as_they_stand S kept m h rs

-- ---- elsewhere, by bytes
pub record Elsewhere : Type 0 where
  pub burn10 : burn_to 0x10 ≡ writes2 0x10 0xE7 0x08 0x00 0x17
  pub burn_c2 : burn_to 0xC2 ≡ writes2 0xC2 0xE7 0x08 0x00 0xF6
  pub burn_ee : burn_to 0xEE ≡ writes2 0xEE 0xE7 0x08 0x00 0xD0
  pub point10 : point_to 0x10 0x35 0x00 ≡ writes2 0x10 0xC7 0x35 0x00 0x44
  pub point_ee : point_to 0xEE 0x35 0x00 ≡ writes2 0xEE 0xC7 0x35 0x00 0x83
  pub read10 : read_data 0x10 ≡ asks 0x10 0xC5 0x11 0x05
  pub read_ee : read_block 0xEE 0xAD ≡ asks 0xEE 0xAD 0xEF 0x06
