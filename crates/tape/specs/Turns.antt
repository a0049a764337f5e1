-- What a turn over the replies of an input gives. Assumes nothing.
use Rattle.std.specs.Prelude.{◌≡◌, ℕ, ◌+◌, List, Option, Some, None, Result, Ok, Err, MatchOption, MatchResult}
use Rattle.std.specs.Borrow.{Bor}
use Rattle.tape.specs.declared.CutShort.{CutShort}
use Rattle.tape.specs.declared.Replies.{Replies}
use Rattle.tape.specs.Replies.{between, found_at}

-- what stands at the place: a reply's kind and bytes, and the next one is looked for behind it
abbrev pub GivesReply : Replies → Option (Result (ℕ × Bor (List ℕ)) CutShort) → Replies → Type 0
GivesReply r given next =
    (next.input ≡ r.input)
    × MatchOption given (found_at r.input.now r.at ≡ Ok None)
    (λ one. MatchResult one
    (λ y. (found_at r.input.now r.at ≡ Ok (Some (record { kind = y.0; start = r.at + 2; end = next.at }))) × (y.1.now ≡ between r.input.now (r.at + 2) next.at))
    (λ e. found_at r.input.now r.at ≡ Err e))
