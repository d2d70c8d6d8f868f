-- A code for derivations, by which proofs tell them apart.
use Rattle.std.specs.Prelude.{◌≡◌, refl}
use Rattle.std.specs.Coded.{codes}
use mathlib.Core.Path.{ap, sym, subst}
use base.Stored.{Coded, Gv, gnil, gnum, gcons, num}
use Rattle.binding_terms.specs.Coding.{coded_tree, head, tail, IsPair}
use Rattle.rule_schemes.specs.Rules.{JudgmentValue}
use Rattle.rule_schemes.specs.Derivation.{Derivation, node, leaf, Subtrees, no_more, subtree}

pub coded_judgment : Coded JudgmentValue
coded_judgment = Prim.hlevel (codes, coded_tree)

abbrev mutual
  pub derivation_code : Derivation → Gv
  derivation_code (node r j ds) = gcons (gnil) (gcons (gnum r) (gcons (coded_judgment.code j) (subtrees_code ds)))
  derivation_code (leaf r j place) = gcons (gcons gnil gnil) (gcons (gnum r) (gcons (coded_judgment.code j) (gnum place)))

  pub subtrees_code : Subtrees → Gv
  subtrees_code no_more = gnil
  subtrees_code (subtree d ds) = gcons (derivation_code d) (subtrees_code ds)

mutual
  pub derivation_inj : (d e : Derivation) → derivation_code d ≡ derivation_code e → d ≡ e
  derivation_inj (node r j ds) (node s k es) h =
      λ i. node (num (head (tail (h i)))) (coded_judgment.inj j k (ap (λ g. head (tail (tail g))) h) i) (subtrees_inj ds es (ap (λ g. tail (tail (tail g))) h) i)
  derivation_inj (node r j ds) (leaf s k place) h = absurd (subst IsPair (sym (ap head h)) tt)
  derivation_inj (leaf r j place) (node s k es) h = absurd (subst IsPair (ap head h) tt)
  derivation_inj (leaf r j place) (leaf s k other) h =
      λ i. leaf (num (head (tail (h i)))) (coded_judgment.inj j k (ap (λ g. head (tail (tail g))) h) i) (num (tail (tail (tail (h i)))))

  pub subtrees_inj : (ds es : Subtrees) → subtrees_code ds ≡ subtrees_code es → ds ≡ es
  subtrees_inj no_more no_more h = refl
  subtrees_inj no_more (subtree e es) h = absurd (subst IsPair (sym h) tt)
  subtrees_inj (subtree d ds) no_more h = absurd (subst IsPair h tt)
  subtrees_inj (subtree d ds) (subtree e es) h = λ i. subtree (derivation_inj d e (ap head h) i) (subtrees_inj ds es (ap tail h) i)

abbrev pub coded_derivation : Coded Derivation
coded_derivation = record { code = derivation_code; inj = derivation_inj }
