-- Lists that are made of an empty list are empty, and of no other.
use Rattle.std.proofs.Common.{◌≢◌, ◌∷◌, ◌<◌, ◌+◌, ◌-◌, ℕ, true, false, get_or, take, drop, subst, ◌≡◌, ◌↔◌, Bool, IsTrue, List, [], length, map, reverse, ap, ◌∙◌, sym}
use Rattle.std.proofs.lemmas.List.{length-map, nil_from_length}
use Rattle.std.proofs.lemmas.List.{length-reverse, drop_more, take_rest}
use Rattle.std.specs.List.{AllByRecursion}
use Rattle.scheme_terms.specs.declared.scheme.MetaDecl.{MetaDecl}
use Rattle.term_reader.specs.Names.{NamesApart}

-- one metavariable less to compare
pub names_step : (metas : List MetaDecl) (i : ℕ) (m : MetaDecl) (r : Bool) → i < length metas → m ≡ get_or metas i m
    → (IsTrue r ↔ AllByRecursion (λ (n : MetaDecl). m.name ≢ n.name) (take (length metas - (i + 1)) (drop (i + 1) metas))) → r ≡ true
    → (NamesApart (drop i metas) ↔ NamesApart metas) → NamesApart (drop (i + 1) metas) ↔ NamesApart metas
names_step metas i m r lt is new holds h =
    let e : drop i metas ≡ m ∷ drop (i + 1) metas = drop_more metas i m lt ∙ ap (λ x. x ∷ drop (i + 1) metas) (sym is) in
    let k : NamesApart (m ∷ drop (i + 1) metas) ↔ NamesApart metas = subst (λ xs. NamesApart xs ↔ NamesApart metas) e h in
    let all : AllByRecursion (λ (n : MetaDecl). m.name ≢ n.name) (drop (i + 1) metas) =
    subst (AllByRecursion (λ (n : MetaDecl). m.name ≢ n.name)) (take_rest metas (i + 1)) (new.0 holds) in
    (λ a. k.0 (all, a), λ b. (k.1 b).1)

pub names_end : (metas : List MetaDecl) (i : ℕ) (m : MetaDecl) (r : Bool) → i < length metas → m ≡ get_or metas i m
    → (IsTrue r ↔ AllByRecursion (λ (n : MetaDecl). m.name ≢ n.name) (take (length metas - (i + 1)) (drop (i + 1) metas))) → r ≡ false
    → (NamesApart (drop i metas) ↔ NamesApart metas) → IsTrue false ↔ NamesApart metas
names_end metas i m r lt is new fails h =
    let e : drop i metas ≡ m ∷ drop (i + 1) metas = drop_more metas i m lt ∙ ap (λ x. x ∷ drop (i + 1) metas) (sym is) in
    let k : NamesApart (m ∷ drop (i + 1) metas) ↔ NamesApart metas = subst (λ xs. NamesApart xs ↔ NamesApart metas) e h in
    let rest : AllByRecursion (λ (n : MetaDecl). m.name ≢ n.name) (drop (i + 1) metas) → IsTrue r =
    λ all. new.1 (subst (AllByRecursion (λ (n : MetaDecl). m.name ≢ n.name)) (sym (take_rest metas (i + 1))) all) in
    (λ t. (let never : false ≡ true = t in cc), λ b. (let holds : r ≡ true = rest ((k.1 b).0) in sym fails ∙ holds))
