-- The iterator's answer is the definition's, from the first identifier on. Assumes nothing.
use Rattle.std.proofs.Common.{rules, tests, ◌≡◌, ◌∙◌, List, [], ◌∷◌, take, leb, refl}
use Rattle.std.specs.List.{list_all}
use Rattle.std.proofs.lemmas.Iterator.{YieldsList-from_slice}
use Rattle.std.proofs.lemmas.Iterator.Search.{all_from_yields_List}
use Rattle.counts.specs.declared.ConfigId.{ConfigId}
use Rattle.promise.proofs.Basics.{split}
use Rattle.session.specs.Sound.{ids_sound}
use Rattle.session.proofs.held.ids_sound.Goals as goal

all_sound : (ids : List ConfigId) → list_all (λ (id : ConfigId). leb id.0 15) ids ≡ ids_sound ids
unfolding ids_sound
all_sound [] = refl
all_sound (id ∷ ids) = split (leb id.0 15) (λ e. rw e (all_sound ids)) (λ e. rw e refl)

pub returns : goal.returns
returns c =
    all_from_yields_List (λ (id : ConfigId). leb id.0 15) _ _ _ c.all.ensures.ran (YieldsList-from_slice (take c.args.k c.args.ids) cc)
    (λ x b q k. search (rules, tests))
    ∙ all_sound (take c.args.k c.args.ids)
