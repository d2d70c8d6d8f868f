use Rattle.std.proofs.Common.{◌+◌, ◌-◌, ◌*◌, ◌∷◌, length, drop}
use Rattle.std.specs.List.{AllByRecursion}
use Rattle.binding_terms.specs.Signature.{binders}
use Rattle.binding_terms.specs.declared.grammar.Item.TheVariants.{Binder}
use Rattle.form_cells.specs.Words.{AreOwn}
use Rattle.form_cells.proofs.WordLemmas.{AreCompleteBelow}
use Rattle.form_cells.proofs.form.+words.Given as goal

abbrev pub decreases-binder_words : goal.decreases-binder_words
decreases-binder_words l = 2 * (length l.items.now - l.at) + 1

abbrev pub decreases-words_at : goal.decreases-words_at
decreases-words_at l = 2 * (length l.items.now - l.at)

abbrev pub invariant-binder_words-loop-place : goal.invariant-binder_words-loop-place
invariant-binder_words-loop-place l =
    AllByRecursion (AreOwn (binders (Binder l.cat ∷ drop l.at l.items))) l.all × AreCompleteBelow l.sheet (Binder l.cat ∷ drop l.at l.items) l.from l.place l.to l.all
