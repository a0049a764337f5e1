-- "Matched" (document 01, demand 3), said on the bytes of the replies and the values that were read: without the tree, a verdict or a
-- definition that judges a reply or 23 to 28. Assumes nothing.
use Rattle.std.specs.Prelude.{◌≡◌, ◌⊎◌, Bool, true, false, List, [], ◌∷◌, ◌++◌, ℕ, ◌+◌, ◌/◌, ◌≤◌, ◌<◌}
use Rattle.counts.specs.declared.Kind.{Kind}
use Rattle.counts.specs.declared.Kind.TheVariants.{Legacy, Production}
use Rattle.bus.specs.declared.Request.{Request}
use Rattle.bus.specs.Bus.{write_of, word_bytes}
use Rattle.bus.specs.InForm.{InForm}
use Rattle.guide.specs.declared.Target.{Target}
use Rattle.guide.specs.declared.Words.{Words}
use Rattle.guide.specs.Terms.{Terms}
use Rattle.guide.specs.Requests.{point_to, read_data, read_block}
use Rattle.guide.specs.Plan.{Reply}
use Rattle.guide.specs.Judged.{cleared}

-- ---- requests with the word that each was answered with

pub record Exchange : Type 0 where
  pub request : Request
  pub word : ℕ

-- a write's reply has no bytes
abbrev pub wrote : Request → Exchange
wrote q = record { request = q; word = 0 }

abbrev pub got : Request → ℕ → Exchange
got q w = record { request = q; word = w }

-- the replies begin with one in form to each of these requests, with its word, and these are left
pub data Heard : List Exchange → List Reply → List Reply → Type 0 where
  none : (left : List Reply) → Heard [] left left
  more : (x : Exchange) (xs : List Exchange) (r : Reply) (rs left : List Reply) → InForm x.request r.kind r.bytes x.word → Heard xs rs left
      → Heard (x ∷ xs) (r ∷ rs) left

-- what was asked, word for word
unfoldable pub asked_in : List Exchange → List Request
asked_in [] = []
asked_in (x ∷ xs) = x.request ∷ asked_in xs

-- ---- steps 1 and 2, with the address in use

abbrev pub heard1 : ℕ → ℕ → List Exchange
heard1 address w =
    wrote (point_to address 0xA2 0x00) ∷ got (read_data address) w ∷ wrote (write_of address 0xC5 (word_bytes (cleared w)))
    ∷ wrote (write_of address 0xE7 (0x02 ∷ 0x00 ∷ [])) ∷ []

abbrev pub heard2 : ℕ → Words → List Exchange
heard2 address read =
    wrote (point_to address 0x35 0x00) ∷ got (read_data address) read.counter ∷ got (read_block address 0xAD) read.identity
    ∷ wrote (point_to address 0x87 0xBD) ∷ got (read_data address) read.flag ∷ got (read_block address 0xAE) read.revision ∷ []

-- step 1 if wanted, then step 2
unfoldable pub opening : ℕ → Bool → ℕ → Words → List Exchange
opening address true w read = heard1 address w ++ heard2 address read
opening address false w read = heard2 address read

-- ---- identity, revision, file kind and remaining places

-- the kind wanted: flag 0 and counter under 28 means legacy; flag FFFE0001 or counter 28 means production
pub data Wants (counter flag : ℕ) : Kind → Type 0 where
  legacy : flag ≡ 0 → counter < 28 → Wants counter flag Legacy
  production : (flag ≡ 0xFFFE0001) ⊎ (counter ≡ 28) → Wants counter flag Production

pub record Fits (target : Target) (kept : ℕ) (read : Words) : Type 0 where
  pub counted : read.counter ≤ 28
  pub same : read.identity ≡ target.identity
  -- the revision's high byte
  pub young : 6 ≤ read.revision / 16777216
  pub kind : Wants read.counter read.flag target.kind
  -- a place for each configuration, beside those that are kept free
  pub places : target.configs + kept ≤ read.counter

pub record Matched (T : Terms) (target : Target) (rs : List Reply) : Type 0 where
  -- what step 1 read, where it is wanted
  pub captured : ℕ
  pub read : Words
  pub left : List Reply
  pub came : Heard (opening T.address T.wanted captured read) rs left
  pub fits : Fits target T.kept read
