-- The theory of sums over natural numbers, and derivations over it, by which the definitions are tried.
use Rattle.std.proofs.Common.{ℕ, List, [], ◌∷◌}
use Rattle.std.specs.Prelude.{false, None, codes}
use Rattle.binding_terms.specs.Tree.{Tree, con, no_args, arg}
use Rattle.binding_terms.specs.Signature.{Signature}
use Rattle.binding_terms.specs.declared.grammar.CatId.{CatId}
use Rattle.binding_terms.specs.declared.grammar.Item.{Item}
use Rattle.binding_terms.specs.declared.grammar.Item.TheVariants.{Word, Slot}
use Rattle.scheme_terms.specs.SchemeTree as schemes
use Rattle.scheme_terms.specs.SchemeTree.{SchemeTree, meta, no_values, no_parts, part}
use Rattle.scheme_terms.specs.Forms.{SchemeContext, ContextValue}
use Rattle.scheme_terms.specs.declared.scheme.MetaDecl.{MetaDecl}
use Rattle.scheme_terms.specs.declared.scheme.Root.TheVariants.{Closed}
use Rattle.rule_schemes.specs.declared.rule.Judgment.{Judgment}
use Rattle.rule_schemes.specs.Rules.{JudgmentScheme, JudgmentValue, Rule, Theory}
use Rattle.rule_schemes.specs.Derivation.{Derivation, node, no_more, subtree}

abbrev pub cat : ℕ → CatId
cat n = record { 0 = n }

abbrev pub n_slot : Item
n_slot = Slot (cat 0) []

abbrev pub nat : Signature
nat =
    record {
      cats = record { name = codes "n"; var = None; context = false } ∷ [];
      prods = record { cat = cat 0; items = Word (codes "z") false ∷ [] } ∷ (record { cat = cat 0; items = Word (codes "s") false ∷ (n_slot ∷ []) } ∷ []);
    }

abbrev pub plus : Judgment
plus = record { name = codes "plus"; ctx = None; items = n_slot ∷ (Word (codes "+") false ∷ (n_slot ∷ (Word (codes "=") false ∷ (n_slot ∷ [])))) }

abbrev pub name_of : List ℕ → MetaDecl
name_of w = record { name = w; cat = cat 0; params = [] }

abbrev pub no_context : SchemeContext
no_context = record { root = Closed; entries = [] }

abbrev pub name : ℕ → SchemeTree
name m = meta m no_values

abbrev pub sum_scheme : SchemeTree → SchemeTree → SchemeTree → JudgmentScheme
sum_scheme a b c = record { judgment = 0; context = no_context; args = a ∷ (b ∷ (c ∷ [])) }

abbrev pub successor_scheme : SchemeTree → SchemeTree
successor_scheme s = schemes.con 1 (part 0 s no_parts)

abbrev pub plus_z : Rule
plus_z = record { name = codes "plus-z"; metas = name_of (codes "n") ∷ []; premises = []; conclusion = sum_scheme (schemes.con 0 no_parts) (name 0) (name 0) }

abbrev pub plus_s : Rule
plus_s =
    record {
      name = codes "plus-s";
      metas = name_of (codes "n1") ∷ (name_of (codes "n2") ∷ (name_of (codes "n3") ∷ []));
      premises = sum_scheme (name 0) (name 1) (name 2) ∷ [];
      conclusion = sum_scheme (successor_scheme (name 0)) (name 1) (successor_scheme (name 2));
    }

abbrev pub sums : Theory
sums = record { sig = nat; judgments = plus ∷ []; rules = plus_z ∷ (plus_s ∷ []) }

abbrev pub z : Tree
z = con 0 no_args

abbrev pub s : Tree → Tree
s t = con 1 (arg 0 t no_args)

abbrev pub closed_value : ContextValue
closed_value = record { cat = None; entries = [] }

abbrev pub sum : Tree → Tree → Tree → JudgmentValue
sum a b c = record { judgment = 0; context = closed_value; args = a ∷ (b ∷ (c ∷ [])) }

abbrev pub zero_sum : Derivation
zero_sum = node 0 (sum z z z) no_more

abbrev pub one_sum : Derivation
one_sum = node 1 (sum (s z) z (s z)) (subtree zero_sum no_more)

-- the same tree with another conclusion at its end
abbrev pub wrong_sum : Derivation
wrong_sum = node 1 (sum (s z) z (s (s z))) (subtree zero_sum no_more)
