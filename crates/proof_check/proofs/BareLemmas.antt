-- A signature is bare where each category and each item is.
use Rattle.std.specs.Prelude.{IsTrue}
use Rattle.std.proofs.Common.{◌≡◌, ◌↔◌, Bool, List, [], ◌∷◌, false, None, subst}
use Rattle.std.specs.List.{AllByRecursion}
use Rattle.binding_terms.specs.Signature.{Signature, slots}
use Rattle.binding_terms.specs.declared.grammar.Cat.{Cat}
use Rattle.binding_terms.specs.declared.grammar.Item.{Item}
use Rattle.binding_terms.specs.declared.grammar.Item.TheVariants.{Word, Slot, Binder}
use Rattle.binding_terms.specs.declared.grammar.Prod.{Prod}
use Rattle.user_grammar.specs.Bare.{IsBareSignature}
use Rattle.proof_check.specs.Bare.{IsBareCategory, IsBareItem, IsBareProduction}
use Rattle.binding_terms.proofs.Lists.{all_map, all_zipped}

to_item : (items : List Item) → AllByRecursion (λ slot. slot.binds ≡ []) (slots items) → AllByRecursion IsBareItem items
to_item [] binds = tt
to_item (Word text quoted ∷ items) binds = (tt, to_item items binds)
to_item (Slot cat bound ∷ items) binds = (binds.0, to_item items binds.1)
to_item (Binder cat ∷ items) binds = (tt, to_item items binds)

to_binds : (items : List Item) → AllByRecursion IsBareItem items → AllByRecursion (λ slot. slot.binds ≡ []) (slots items)
to_binds [] all = tt
to_binds (Word text quoted ∷ items) all = to_binds items all.1
to_binds (Slot cat bound ∷ items) all = (all.0, to_binds items all.1)
to_binds (Binder cat ∷ items) all = to_binds items all.1

abbrev IsBareByParts : Signature → Type 0
IsBareByParts sig = AllByRecursion IsBareCategory sig.cats × AllByRecursion IsBareProduction sig.prods

to_parts : (sig : Signature) → IsBareSignature sig → IsBareByParts sig
to_parts sig is = (
  all_zipped (λ (cat : Cat). cat.context ≡ false) (λ (cat : Cat). cat.var ≡ None) sig.cats is.plain.no_context is.variables,
  all_map (λ (prod : Prod). AllByRecursion (λ slot. slot.binds ≡ []) (slots prod.items)) IsBareProduction (λ prod binds. to_item prod.items binds) sig.prods is.plain.no_binding,
)

from_parts : (sig : Signature) → IsBareByParts sig → IsBareSignature sig
from_parts sig is = record {
  plain = record {
    no_context = all_map IsBareCategory (λ (cat : Cat). cat.context ≡ false) (λ cat both. both.0) sig.cats is.0;
    no_binding = all_map IsBareProduction (λ (prod : Prod). AllByRecursion (λ slot. slot.binds ≡ []) (slots prod.items)) (λ prod all. to_binds prod.items all) sig.prods is.1;
  };
  variables = all_map IsBareCategory (λ (cat : Cat). cat.var ≡ None) (λ cat both. both.1) sig.cats is.0;
}

-- the test of the parts is the test of the signature
pub bare_by_parts : (sig : Signature) (cats : List Cat) (prods : List Prod) (is : Bool) → cats ≡ sig.cats → prods ≡ sig.prods →
    IsTrue is ↔ (AllByRecursion IsBareCategory cats × AllByRecursion IsBareProduction prods) → IsTrue is ↔ IsBareSignature sig
bare_by_parts sig cats prods is same_cats same_prods told =
    let here = subst (λ (p : List Cat × List Prod). IsTrue is ↔ (AllByRecursion IsBareCategory p.0 × AllByRecursion IsBareProduction p.1))
    (λ i. (same_cats i, same_prods i)) told in
    ((λ yes. from_parts sig (here.0 yes)), (λ bare. here.1 (to_parts sig bare)))
