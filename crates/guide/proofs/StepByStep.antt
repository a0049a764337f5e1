-- Through each step by its replies: a request is the last that is put out, since no reply has come or one that is not in form, or the
-- replies lead on with the words that they tell. Assumes nothing.
use mathlib.Core.Path.{◌≡◌, refl, ap}
use mathlib.Core.Logic.{◌⊎◌, inl, inr}
use mathlib.Core.Bool.{Bool, true, false}
use mathlib.Core.List.{List, [], ◌∷◌, ◌++◌}
use Prim.Native.Nat.{ℕ, zero, suc, ◌%◌}
use native.Mathlib.Omega.{arith}
use lib.Dec.{eqb}
use lib.ListN.{length}
use borrow.Author.Tests.{eqb-true, eqb-false}
use Rattle.promise.specs.First.{First}
use Rattle.promise.proofs.Basics.{split}
use Rattle.line.specs.declared.Line.{Line}
use Rattle.bus.specs.declared.Request.{Request}
use Rattle.bus.specs.Bus.{write_of, word_bytes}
use Rattle.bus.specs.InForm.{Made, register, block}
use Rattle.guide.specs.declared.Words.{Words}
use Rattle.guide.specs.Terms.{Terms}
use Rattle.guide.specs.Judged.{cleared}
use Rattle.guide.specs.Plan.{Reply}
use Rattle.guide.specs.Requests.{read_data, read_block, line_data, line_request}
use Rattle.guide.specs.Matched.{Exchange, got, Heard, none, more, heard1, heard2, opening}
use Rattle.guide.specs.Verdicts.{ReplyTable}
use Rattle.guide.specs.Course.{Config, heard3, heard4, heard_config, heard6, line_requests, Polling, Next, here, there}
use Rattle.guide.proofs.Through.{heard_both}
use Rattle.guide.proofs.Writes.{Came, came_none, made_write}
use Rattle.guide.proofs.Statuses.{clear_more}
use Rattle.guide.proofs.ReplyExactly.{Replied, in_form, halted, replied}

-- ---- one request

-- it is the last that is put out: no reply has come, or one that the table refuses
pub data Last (q : Request) : List Reply → Type 0 where
  silent : Last q []
  told : (r : Reply) (later : List Reply) (m N : ℕ) → First (ReplyTable q r) m N → Last q (r ∷ later)

module _ {C : Type 0} where
  pub read_any : (q : Request) → Made q → (rs : List Reply) → (Last q rs → C) → ((w : ℕ) (rest : List Reply) → Came q w rs rest → C) → C
  read_any q made [] stop go = stop silent
  read_any q made (r ∷ rs) stop go = by (replied q r made)
    where
      by : Replied q r → C
      by (in_form w i) = go w rs (more _ [] r rs rs i (none rs))
      by (halted m N f) = stop (told r rs m N f)

  pub write_any : (address command : ℕ) (bs : List ℕ) (rs : List Reply) → (Last (write_of address command bs) rs → C)
      → ((rest : List Reply) → Came (write_of address command bs) 0 rs rest → C) → C
  write_any address command bs rs stop go =
      read_any (write_of address command bs) (made_write address command bs) rs stop (λ w rest h. go rest (came_none address command bs h))

-- ---- exchanges, as far as they were made

-- the request behind those that were answered is the last
pub record Stuck (ys : List Exchange) (rs : List Reply) : Type 0 where
  pub request : Request
  pub made : List Exchange
  pub left : List Reply
  pub next : Next ys made request
  pub heard : Heard made rs left
  pub how : Last request left

pub stuck : {x : Exchange} {ys : List Exchange} {rs : List Reply} → Last x.request rs → Stuck (x ∷ ys) rs
stuck {x} {ys} {rs} h = record { request = x.request; made = []; left = rs; next = here x ys; heard = none rs; how = h }

next_behind : (xs : List Exchange) {ys zs : List Exchange} {q : Request} → Next ys zs q → Next (xs ++ ys) (xs ++ zs) q
next_behind [] n = n
next_behind (x ∷ xs) n = there x _ _ _ (next_behind xs n)

-- some exchanges were answered before
pub behind : {xs ys : List Exchange} {rs mid : List Reply} → Heard xs rs mid → Stuck ys mid → Stuck (xs ++ ys) rs
behind {xs} h s =
    record {
      request = s.request;
      made = xs ++ s.made;
      left = s.left;
      next = next_behind xs s.next;
      heard = heard_both h s.heard;
      how = s.how;
    }

next_before : {ys xs : List Exchange} {q : Request} (zs : List Exchange) → Next ys xs q → Next (ys ++ zs) xs q
next_before zs (here x ys) = here x _
next_before zs (there x ys xs q n) = there x _ _ _ (next_before zs n)

-- some were still to come
pub before : {ys : List Exchange} {rs : List Reply} (zs : List Exchange) → Stuck ys rs → Stuck (ys ++ zs) rs
before zs s = record { request = s.request; made = s.made; left = s.left; next = next_before zs s.next; heard = s.heard; how = s.how }

pub then : {x : Exchange} {ys : List Exchange} {rs mid left : List Reply} → Heard (x ∷ []) rs mid → Heard ys mid left → Heard (x ∷ ys) rs left
then c h = heard_both c h

pub on : {x : Exchange} {ys : List Exchange} {rs mid : List Reply} → Heard (x ∷ []) rs mid → Stuck ys mid → Stuck (x ∷ ys) rs
on c s = behind c s

-- ---- the steps: stuck in them, or through them

abbrev words : ℕ → ℕ → ℕ → ℕ → Words
words counter identity flag revision = record { counter = counter; identity = identity; flag = flag; revision = revision }

-- no status yet, and one with bit 0 clear before others
no_status : (n : ℕ) → Polling (suc n) []
no_status n = record { clear = λ i h. absurd (let y : ⊥ = omega arith in y); within = omega arith }

one_more : {n : ℕ} {busy : List ℕ} (w : ℕ) → w % 2 ≡ 0 → Polling n busy → Polling (suc n) (w ∷ busy)
one_more {n} {busy} w e p = record { clear = clear_more w busy e p.clear; within = omega (arith, p.within) }

sooner : (n k w : ℕ) → (w % 2 ≡ 1) ⊎ (k ≡ n) → (w % 2 ≡ 1) ⊎ (suc k ≡ suc n)
sooner n k w (inl e) = inl e
sooner n k w (inr e) = inr (omega arith)

module _ {C : Type 0} (address : ℕ) where
  step1_any : (rs : List Reply) → ((w : ℕ) → Stuck (heard1 address w) rs → C) → ((w : ℕ) (left : List Reply) → Heard (heard1 address w) rs left → C) → C
  step1_any rs stop go =
      write_any address 0xC7 (0xA2 ∷ 0x00 ∷ []) rs (λ h. stop 0 (stuck h)) λ r1 c1.
      read_any (read_data address) (register address) r1 (λ h. stop 0 (on c1 (stuck h))) λ w r2 c2.
      write_any address 0xC5 (word_bytes (cleared w)) r2 (λ h. stop w (on c1 (on c2 (stuck h)))) λ r3 c3.
      write_any address 0xE7 (0x02 ∷ 0x00 ∷ []) r3 (λ h. stop w (on c1 (on c2 (on c3 (stuck h))))) λ r4 c4.
      go w r4 (then c1 (then c2 (then c3 c4)))

  step2_any : (rs : List Reply) → ((read : Words) → Stuck (heard2 address read) rs → C) → ((read : Words) (left : List Reply) → Heard (heard2 address read) rs left → C) → C
  step2_any rs stop go =
      write_any address 0xC7 (0x35 ∷ 0x00 ∷ []) rs (λ h. stop (words 0 0 0 0) (stuck h)) λ r1 c1.
      read_any (read_data address) (register address) r1 (λ h. stop (words 0 0 0 0) (on c1 (stuck h))) λ c r2 c2.
      read_any (read_block address 0xAD) (block address 0xAD) r2 (λ h. stop (words c 0 0 0) (on c1 (on c2 (stuck h)))) λ i r3 c3.
      write_any address 0xC7 (0x87 ∷ 0xBD ∷ []) r3 (λ h. stop (words c i 0 0) (on c1 (on c2 (on c3 (stuck h))))) λ r4 c4.
      read_any (read_data address) (register address) r4 (λ h. stop (words c i 0 0) (on c1 (on c2 (on c3 (on c4 (stuck h)))))) λ f r5 c5.
      read_any (read_block address 0xAE) (block address 0xAE) r5 (λ h. stop (words c i f 0) (on c1 (on c2 (on c3 (on c4 (on c5 (stuck h))))))) λ v r6 c6.
      go (words c i f v) r6 (then c1 (then c2 (then c3 (then c4 (then c5 c6)))))

  pub opening_any : (wanted : Bool) (rs : List Reply) → ((captured : ℕ) (read : Words) → Stuck (opening address wanted captured read) rs → C)
      → ((captured : ℕ) (read : Words) (left : List Reply) → Heard (opening address wanted captured read) rs left → C) → C
  unfolding opening
  opening_any true rs stop go =
      step1_any rs (λ w s. stop w (words 0 0 0 0) (before _ s)) λ w mid h.
      step2_any mid (λ read s. stop w read (behind h s)) λ read left g. go w read left (heard_both h g)
  opening_any false rs stop go = step2_any rs (λ read s. stop 0 read s) λ read left g. go 0 read left g

  pub lines_any : (ls : List Line) (rs : List Reply) → (Stuck (heard3 (line_requests address ls)) rs → C)
      → ((left : List Reply) → Heard (heard3 (line_requests address ls)) rs left → C) → C
  unfolding heard3 line_requests line_request
  lines_any [] rs stop go = go rs (none rs)
  lines_any (l ∷ ls) rs stop go =
      write_any address l.command (line_data l) rs (λ h. stop (stuck h)) λ r1 c1.
      lines_any ls r1 (λ s. stop (on c1 s)) λ left h. go left (then c1 h)

  -- with so many polls behind the next: stuck at one, or one ended it
  pub polls_any : (n : ℕ) (rs : List Reply)
      → ((busy : List ℕ) → Polling (suc n) busy → Stuck (heard4 address busy ++ (got (read_data address) 0 ∷ [])) rs → C)
      → ((busy : List ℕ) (w : ℕ) (mid left : List Reply) → Polling (suc n) busy → (w % 2 ≡ 1) ⊎ (length busy ≡ n) → Heard (heard4 address busy) rs mid
      → Heard (got (read_data address) w ∷ []) mid left → C)
      → C
  unfolding heard4
  polls_any zero rs stop go =
      read_any (read_data address) (register address) rs (λ h. stop [] (no_status 0) (stuck h)) λ w r1 c1.
      go [] w rs r1 (no_status 0) (inr refl) (none rs) c1
  polls_any (suc n) rs stop go =
      read_any (read_data address) (register address) rs (λ h. stop [] (no_status (suc n)) (stuck h)) λ w r1 c1.
      split (eqb (w % 2) 0)
      (λ e. let z = eqb-true (w % 2) 0 e in
      polls_any n r1 (λ busy p s. stop (w ∷ busy) (one_more w z p) (on c1 s))
      (λ busy u mid left p f t d. go (w ∷ busy) u mid left (one_more w z p) (sooner n (length busy) u f) (then c1 t) d))
      (λ e. go [] w rs r1 (no_status (suc n)) (inl (omega (arith, eqb-false (w % 2) 0 e))) (none rs) c1)

module _ {C : Type 0} where
  -- stuck, a CRC that differs, or all are the file's
  pub verify_any : (T : Terms) (cs : List Config) (rs : List Reply)
      → (Stuck (heard6 T cs) rs → C)
      → ((sofar : List Config) (x : Config) (more : List Config) (crc : ℕ) (left : List Reply) → cs ≡ sofar ++ (x ∷ more) → (crc ≡ x.crc → ⊥)
      → Heard (heard6 T sofar ++ heard_config T x crc) rs left → C)
      → ((left : List Reply) → Heard (heard6 T cs) rs left → C)
      → C
  unfolding heard6
  verify_any T [] rs stop differ go = go rs (none rs)
  verify_any T (x ∷ cs) rs stop differ go =
      write_any T.address T.restore (x.id ∷ []) rs (λ h. stop (stuck h)) λ r1 c1.
      write_any T.address 0xC7 (0x94 ∷ 0x00 ∷ []) r1 (λ h. stop (on c1 (stuck h))) λ r2 c2.
      read_any (read_data T.address) (register T.address) r2 (λ h. stop (on c1 (on c2 (stuck h)))) λ crc r3 c3.
      split (eqb crc x.crc)
      (λ e. let c4 : Heard (got (read_data T.address) x.crc ∷ []) r2 r3 = rw (eqb-true crc x.crc e) at c3 in
      verify_any T cs r3 (λ s. stop (on c1 (on c2 (on c4 s))))
      (λ sofar y more w left f g t. differ (x ∷ sofar) y more w left (ap (λ (l : List Config). x ∷ l) f) g (then c1 (then c2 (then c4 t))))
      (λ left t. go left (then c1 (then c2 (then c4 t)))))
      (λ e. differ [] x cs crc r3 refl (eqb-false crc x.crc e) (then c1 (then c2 c3)))
