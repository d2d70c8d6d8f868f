-- What stands at the head of a scheme.
use Rattle.std.proofs.Common.{rules, ◌≡◌, ℕ, ◌+◌, List, [], ◌∷◌, map, inl, inr, refl, ap, ◌∙◌}
use Rattle.binding_terms.specs.declared.grammar.ProdId.{ProdId}
use Rattle.scheme_terms.specs.SchemeTree.{SchemeTree, meta, known, local, con, values}
use Rattle.scheme_terms.specs.View.{scheme, scheme_parts}
use Rattle.scheme_terms.specs.declared.scheme.MetaId.{MetaId}
use Rattle.scheme_terms.specs.declared.scheme.SArg.{SArg}
use Rattle.scheme_terms.specs.declared.scheme.Scheme.{Scheme, the_lemmas}
use Rattle.scheme_terms.specs.declared.scheme.Scheme.TheVariants as schemes
use Rattle.rule_schemes.specs.Reading.{Variable, Meaning, bound, entry_of, counted, meant, Means}

pub scheme_of_meta : (m : MetaId) (args : List Scheme) → scheme (schemes.Meta m args) ≡ meta m.0 (values (map scheme args))
scheme_of_meta m args = search (rules, the_lemmas)

pub scheme_of_known : (k : ℕ) → scheme (schemes.Known k) ≡ known k
scheme_of_known k = search (rules, the_lemmas)

pub scheme_of_local : (i : ℕ) → scheme (schemes.Local i) ≡ local i
scheme_of_local i = search (rules, the_lemmas)

pub scheme_of_con : (p : ProdId) (parts : List SArg) → scheme (schemes.Con p parts) ≡ con p.0 (scheme_parts parts)
scheme_of_con p parts = search (rules, the_lemmas)

-- what stands at the head of a scheme: 0 a metavariable, 1 a variable, 2 a production
abbrev pub head_kind : SchemeTree → ℕ
head_kind (meta m vs) = 0
head_kind (known k) = 1
head_kind (local i) = 1
head_kind (con p xs) = 2

meant_kind : (m : Meaning) (n : ℕ) → head_kind (meant m n) ≡ 1
meant_kind bound n = refl
meant_kind (entry_of k) n = refl

pub means_kind : (n : ℕ) (vars : List Variable) (w : List ℕ) (c : ℕ) (s : SchemeTree) → Means n vars w c s → head_kind s ≡ 1
means_kind n [] w c s h = absurd h
means_kind n (v ∷ vars) w c s (inl h) = ap head_kind h.2 ∙ meant_kind v.means n
means_kind n (v ∷ vars) w c s (inr h) = means_kind (n + counted v.means) vars w c s h.1
