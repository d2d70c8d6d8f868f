-- Derivations whose text was worked out by hand, by which the definitions are tried.
use Rattle.std.specs.Prelude.{◌≡◌, [], ◌∷◌, None, Some, false, codes}
use Rattle.binding_terms.specs.Tree.{Tree, var, con, no_args, arg}
use Rattle.binding_terms.specs.Signature.{Signature}
use Rattle.binding_terms.specs.declared.grammar.Item.TheVariants.{Word, Slot, Binder}
use Rattle.scheme_terms.specs.declared.scheme.Root.TheVariants.{Closed}
use Rattle.scheme_terms.specs.Forms.{ContextValue}
use Rattle.rule_schemes.specs.Rules.{JudgmentValue, Theory}
use Rattle.rule_schemes.specs.Derivation.{Derivation, node, leaf, no_more, subtree}
use Rattle.rule_schemes.specs.Sums.{cat, sums, sum, z, s, one_sum}
use Rattle.rule_schemes.specs.Lambda.{typed, entry_of_unit, two_entries, unit_type, x1_has_unit, identity_typed}
use Rattle.derivation_text.specs.Text.{derivations_text}

abbrev pub two_sum : Derivation
two_sum = node 1 (sum (s (s z)) z (s (s z))) (subtree one_sum no_more)

-- the same tree with another conclusion at its end
abbrev pub wrong_two_sum : Derivation
wrong_two_sum = node 1 (sum (s (s z)) z (s z)) (subtree one_sum no_more)

-- z + z = z, and two more steps of successors
abbrev pub SumsText : Type 0
SumsText =
    derivations_text sums None (two_sum ∷ [])
    ≡ codes "d1: z + z = z by rule plus-z\nd2: (s z) + z = (s z) by rule plus-s on d1\nd3: (s (s z)) + z = (s (s z)) by rule plus-s on d2\ngives d3\n"

-- a tree that stands twice is written twice, and the names of both are given
abbrev pub SharedText : Type 0
SharedText =
    derivations_text sums None (one_sum ∷ (one_sum ∷ []))
    ≡ codes "d1: z + z = z by rule plus-z\nd2: (s z) + z = (s z) by rule plus-s on d1\nd3: z + z = z by rule plus-z\nd4: (s z) + z = (s z) by rule plus-s on d3\ngives d2, d4\n"

-- no derivation at all
abbrev pub NothingText : Type 0
NothingText = derivations_text sums None [] ≡ codes "gives\n"

-- the identity, over a context of its own, written in full
abbrev pub IdentityText : Type 0
IdentityText =
    derivations_text typed None (identity_typed ∷ [])
    ≡ codes "d1: *, x1 : unit |- x1 : unit by rule t-var\nd2: * |- (fn x1 : unit => x1) : (unit -> unit) by rule t-fn on d1\ngives d2\n"

-- a variable of a context of three entries of which two are the root
abbrev pub three_entries : ContextValue
three_entries = record { cat = Some 2; entries = entry_of_unit ∷ (entry_of_unit ∷ (entry_of_unit ∷ [])) }

abbrev pub x3_has_unit : JudgmentValue
x3_has_unit = record { judgment = 0; context = three_entries; args = var 0 ∷ (unit_type ∷ []) }

-- where a root is given its name stands for it, and variables after it have the next numbers
abbrev pub RootText : Type 0
RootText =
    derivations_text typed (Some two_entries) (leaf 0 x1_has_unit 0 ∷ (leaf 0 x3_has_unit 2 ∷ []))
    ≡ codes "context *, x1 : unit, x2 : unit\nd1: Gamma |- x1 : unit by rule t-var\nd2: Gamma, x3 : unit |- x3 : unit by rule t-var\ngives d1, d2\n"

-- a context that does not begin with the root is written in full
abbrev pub FullText : Type 0
FullText =
    derivations_text typed (Some three_entries) (leaf 0 x1_has_unit 0 ∷ [])
    ≡ codes "context *, x1 : unit, x2 : unit, x3 : unit\nd1: *, x1 : unit, x2 : unit |- x1 : unit by rule t-var\ngives d1\n"

-- t ::= fn x => t[x] | x
abbrev pub binding : Signature
binding =
    record {
      cats = record { name = codes "t"; var = Some (codes "x"); context = false } ∷ [];
      prods = record { cat = cat 0; items = Word (codes "fn") false ∷ (Binder (cat 0) ∷ (Word (codes "=>") false ∷ (Slot (cat 0) (0 ∷ []) ∷ []))) } ∷ [];
    }

abbrev pub fn_of : Tree → Tree
fn_of t = con 0 (arg 1 t no_args)

abbrev pub same : Theory
same =
    record {
      sig = binding;
      judgments = record { name = codes "same"; ctx = None; items = Slot (cat 0) [] ∷ (Word (codes "=") false ∷ (Slot (cat 0) [] ∷ [])) } ∷ [];
      rules = record { name = codes "refl"; metas = []; premises = []; conclusion = record { judgment = 0; context = record { root = Closed; entries = [] }; args = [] } } ∷ [];
    }

-- under binders each variable has the next number
abbrev pub BindersText : Type 0
BindersText =
    derivations_text same None
    (node 0 (record { judgment = 0; context = record { cat = None; entries = [] }; args = fn_of (fn_of (fn_of (var 1))) ∷ (fn_of (fn_of (fn_of (var 1))) ∷ []) }) no_more ∷ [])
    ≡ codes "d1: (fn x1 => (fn x2 => (fn x3 => x2))) = (fn x1 => (fn x2 => (fn x3 => x2))) by rule refl\ngives d1\n"
