-- The typed lambda calculus as a theory, and derivations over it, by which the definitions are tried.
use Rattle.std.proofs.Common.{ℕ, List, [], ◌∷◌}
use Rattle.std.specs.Prelude.{true, false, Some, None, codes}
use Rattle.binding_terms.specs.Tree.{Tree, var, con, no_args, arg}
use Rattle.binding_terms.specs.Signature.{Signature}
use Rattle.binding_terms.specs.declared.grammar.Item.{Item}
use Rattle.binding_terms.specs.declared.grammar.Item.TheVariants.{Word, Slot, Binder}
use Rattle.scheme_terms.specs.SchemeTree as schemes
use Rattle.scheme_terms.specs.SchemeTree.{SchemeTree, meta, local, no_values, value, no_parts, part}
use Rattle.scheme_terms.specs.Forms.{SchemeContext, ContextValue, GroundEntry}
use Rattle.scheme_terms.specs.declared.scheme.MetaDecl.{MetaDecl}
use Rattle.scheme_terms.specs.declared.scheme.Root.TheVariants.{Whole}
use Rattle.rule_schemes.specs.declared.rule.Judgment.{Judgment}
use Rattle.rule_schemes.specs.Rules.{JudgmentValue, Rule, Theory}
use Rattle.rule_schemes.specs.Derivation.{Derivation, node, leaf, no_more, subtree}
use Rattle.rule_schemes.specs.Sums.{cat}

abbrev pub T_slot : Item
T_slot = Slot (cat 0) []

abbrev pub t_slot : Item
t_slot = Slot (cat 1) []

abbrev pub terminal_of : List ℕ → Item
terminal_of w = Word w false

-- T ::= unit | T -> T; t ::= fn x : T => t[x] | t t | unit | x; Gamma ::= * | Gamma, x : T
abbrev pub lambda : Signature
lambda =
    record {
      cats =
          record { name = codes "T"; var = None; context = false }
          ∷ (record { name = codes "t"; var = Some (codes "x"); context = false }
          ∷ (record { name = codes "Gamma"; var = None; context = true } ∷ []));
      prods =
          record { cat = cat 0; items = terminal_of (codes "unit") ∷ [] }
          ∷ (record { cat = cat 0; items = T_slot ∷ (terminal_of (codes "->") ∷ (T_slot ∷ [])) }
          ∷ (record { cat = cat 1; items = terminal_of (codes "fn") ∷ (Binder (cat 1) ∷ (terminal_of (codes ":") ∷ (T_slot ∷ (terminal_of (codes "=>") ∷ (Slot (cat 1) (0 ∷ []) ∷ []))))) }
          ∷ (record { cat = cat 1; items = t_slot ∷ (t_slot ∷ []) }
          ∷ (record { cat = cat 1; items = terminal_of (codes "unit") ∷ [] }
          ∷ (record { cat = cat 2; items = terminal_of (codes "*") ∷ [] }
          ∷ (record { cat = cat 2; items = Slot (cat 2) [] ∷ (terminal_of (codes ",") ∷ (Binder (cat 1) ∷ (terminal_of (codes ":") ∷ (T_slot ∷ [])))) }
          ∷ []))))));
    }

abbrev pub unit_type : Tree
unit_type = con 0 no_args

abbrev pub entry_of_unit : GroundEntry
entry_of_unit = record { prod = 6; args = unit_type ∷ [] }

-- *, x1 : unit, x2 : unit
abbrev pub two_entries : ContextValue
two_entries = record { cat = Some 2; entries = entry_of_unit ∷ (entry_of_unit ∷ []) }

abbrev pub typing : Judgment
typing = record { name = codes "typing"; ctx = Some (cat 2); items = Slot (cat 2) [] ∷ (terminal_of (codes "|-") ∷ (t_slot ∷ (terminal_of (codes ":") ∷ (T_slot ∷ [])))) }

abbrev pub T_name : MetaDecl
T_name = record { name = codes "T"; cat = cat 0; params = [] }

abbrev pub one_entry : SchemeContext
one_entry = record { root = Whole (cat 2); entries = record { prod = 6; args = meta 0 no_values ∷ [] } ∷ [] }

abbrev pub t_var : Rule
t_var =
    record {
      name = codes "t-var";
      metas = T_name ∷ [];
      premises = [];
      conclusion = record { judgment = 0; context = one_entry; args = local 0 ∷ (meta 0 no_values ∷ []) };
    }

abbrev pub T1 : MetaDecl
T1 = record { name = codes "T1"; cat = cat 0; params = [] }

abbrev pub T2 : MetaDecl
T2 = record { name = codes "T2"; cat = cat 0; params = [] }

abbrev pub t_of_x : MetaDecl
t_of_x = record { name = codes "t"; cat = cat 1; params = cat 1 ∷ [] }

-- Gamma, x : T1 |- t[x] : T2 above Gamma |- fn x : T1 => t[x] : T1 -> T2
abbrev pub t_fn : Rule
t_fn =
    record {
      name = codes "t-fn";
      metas = T1 ∷ (t_of_x ∷ (T2 ∷ []));
      premises = record { judgment = 0; context = one_entry; args = meta 1 (value (local 0) no_values) ∷ (meta 2 no_values ∷ []) } ∷ [];
      conclusion =
          record {
            judgment = 0;
            context = record { root = Whole (cat 2); entries = [] };
            args =
                schemes.con 2 (part 0 (meta 0 no_values) (part 1 (meta 1 (value (local 0) no_values)) no_parts))
                ∷ (schemes.con 1 (part 0 (meta 0 no_values) (part 0 (meta 2 no_values) no_parts)) ∷ []);
          };
    }

abbrev pub typed : Theory
typed = record { sig = lambda; judgments = typing ∷ []; rules = t_var ∷ (t_fn ∷ []) }

abbrev pub x1_has_unit : JudgmentValue
x1_has_unit = record { judgment = 0; context = two_entries; args = var 1 ∷ (unit_type ∷ []) }

-- * |- fn x : unit => x : unit -> unit, over *, x : unit |- x : unit
abbrev pub empty_value : ContextValue
empty_value = record { cat = Some 2; entries = [] }

abbrev pub one_entry_value : ContextValue
one_entry_value = record { cat = Some 2; entries = entry_of_unit ∷ [] }

abbrev pub arrow : Tree
arrow = con 1 (arg 0 unit_type (arg 0 unit_type no_args))

abbrev pub identity : Tree
identity = con 2 (arg 0 unit_type (arg 1 (var 0) no_args))

abbrev pub x_has_unit : Derivation
x_has_unit = leaf 0 (record { judgment = 0; context = one_entry_value; args = var 0 ∷ (unit_type ∷ []) }) 0

abbrev pub identity_typed : Derivation
identity_typed = node 1 (record { judgment = 0; context = empty_value; args = identity ∷ (arrow ∷ []) }) (subtree x_has_unit no_more)
