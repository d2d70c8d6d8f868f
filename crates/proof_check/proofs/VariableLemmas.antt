-- What stands in the portions of an outline, portion by portion.
use Rattle.std.proofs.Common.{◌≡◌, ◌↔◌, ◌<◌, ◌+◌, ℕ, List, length, drop, get_or, sym, subst}
use Rattle.std.specs.Prelude.{flat_map}
use Rattle.binding_terms.specs.Numbered.{AnyByRecursion}
use Rattle.outline_reader.specs.declared.parts.Portion.{Portion}
use Rattle.outline_reader.specs.Plain.{PlainPortion, plain_portion}
use Rattle.outline_reader.specs.Views.{portion_view}
use Rattle.proof_check.specs.View.{plain_portions}
use Rattle.binding_terms.proofs.Lists.{any_back, any_behind, any_front, drop_from}

module _ {B : Type 0} (f : PlainPortion → List B) (P : B → Type 0) (portions : List Portion) (i : ℕ) (portion : Portion) (lt : i < length portions) (is : portion ≡ get_or portions i portion) where
  abbrev pub AnyFrom : List Portion → Type 0
  AnyFrom ps = AnyByRecursion P (flat_map f (plain_portions ps))

  abbrev pub AnyHere : Type 0
  AnyHere = AnyByRecursion P (f (plain_portion (portion_view portion)))

  pub any_found : AnyFrom (drop i portions) ↔ AnyFrom portions → AnyHere → AnyFrom portions
  any_found same here =
      same.0 (subst AnyFrom (sym (drop_from portions i portion lt is)) (any_front P (f (plain_portion (portion_view portion))) (flat_map f (plain_portions (drop (i + 1) portions))) here))

  pub any_kept : AnyFrom (drop i portions) ↔ AnyFrom portions → (AnyHere → ⊥) → AnyFrom (drop (i + 1) portions) ↔ AnyFrom portions
  any_kept same none = (
    (λ there. same.0 (subst AnyFrom (sym (drop_from portions i portion lt is))
        (any_back P (f (plain_portion (portion_view portion))) (flat_map f (plain_portions (drop (i + 1) portions))) there))),
    (λ all. any_behind P (f (plain_portion (portion_view portion))) (flat_map f (plain_portions (drop (i + 1) portions))) none
        (subst AnyFrom (drop_from portions i portion lt is) (same.1 all))),
  )
