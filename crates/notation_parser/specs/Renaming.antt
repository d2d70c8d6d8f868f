-- Metavariables numbered anew, in schemes and in what forms say. Held against docs/notation.md on readings.
use Rattle.std.specs.Prelude.{◌≡◌, ◌⊎◌, ℕ, ◌<◌, List, length, map, Some, slice_get}
use Rattle.binding_terms.specs.Numbered.{AnyByRecursion}
use Rattle.scheme_terms.specs.SchemeTree.{SchemeTree, meta, known, local, con, Values, no_values, value, Parts, no_parts, part, OccursIn}
use Rattle.scheme_terms.specs.Forms.{SchemeEntry, SchemeContext, KnownVariable}
use Rattle.scheme_terms.specs.declared.scheme.MetaDecl.{MetaDecl}
use Rattle.rule_schemes.specs.Reading.{ReadingScope}
use Rattle.rule_schemes.specs.Rules.{JudgmentScheme}
use Rattle.rule_schemes.specs.Said.{Written, a_term, a_judgment, a_context, Said, OccursInWritten}

-- each metavariable with its new number
abbrev mutual
  pub renamed : (ℕ → ℕ) → SchemeTree → SchemeTree
  renamed new (meta m vs) = meta (new m) (renamed_values new vs)
  renamed new (known k) = known k
  renamed new (local i) = local i
  renamed new (con p xs) = con p (renamed_parts new xs)

  pub renamed_values : (ℕ → ℕ) → Values → Values
  renamed_values new no_values = no_values
  renamed_values new (value s vs) = value (renamed new s) (renamed_values new vs)

  pub renamed_parts : (ℕ → ℕ) → Parts → Parts
  renamed_parts new no_parts = no_parts
  renamed_parts new (part n s xs) = part n (renamed new s) (renamed_parts new xs)

-- the same of entries, contexts, judgments and known variables
abbrev pub renamed_entry : (ℕ → ℕ) → SchemeEntry → SchemeEntry
renamed_entry new e = record { prod = e.prod; args = map (renamed new) e.args }

abbrev pub renamed_context : (ℕ → ℕ) → SchemeContext → SchemeContext
renamed_context new ctx = record { root = ctx.root; entries = map (renamed_entry new) ctx.entries }

abbrev pub renamed_judgment : (ℕ → ℕ) → JudgmentScheme → JudgmentScheme
renamed_judgment new j = record { judgment = j.judgment; context = renamed_context new j.context; args = map (renamed new) j.args }

abbrev pub renamed_known : (ℕ → ℕ) → KnownVariable → KnownVariable
renamed_known new k = record { name = k.name; entry = renamed_entry new k.entry }

-- the same of what is written
abbrev pub renamed_written : (ℕ → ℕ) → Written → Written
renamed_written new (a_term s) = a_term (renamed new s)
renamed_written new (a_judgment j) = a_judgment (renamed_judgment new j)
renamed_written new (a_context ctx) = a_context (renamed_context new ctx)

-- what a form without new metavariables says, each metavariable with its new number
abbrev pub renamed_said : (ℕ → ℕ) → Said → Said
renamed_said new said =
    record { written = renamed_written new said.written; metas = said.metas; knowns = map (renamed_known new) said.knowns }

-- the metavariable stands in the entries of known variables
abbrev pub OccursInKnowns : ℕ → List KnownVariable → Type 0
OccursInKnowns m ks = AnyByRecursion (λ k. AnyByRecursion (OccursIn m) k.entry.args) ks

-- the metavariable stands in what is written or in the known variables that are written with it
abbrev pub OccursInWanted : ℕ → Written → List KnownVariable → Type 0
OccursInWanted m written ks = OccursInWritten m written ⊎ OccursInKnowns m ks

-- each metavariable of the first names that occurs stands with its new number among the second names
abbrev pub KeepsUsed : (ℕ → ℕ) → (metas others : List MetaDecl) → (Occurs : ℕ → Type 0) → Type 0
KeepsUsed new metas others Occurs =
    (m : ℕ) (decl : MetaDecl) → Occurs m → slice_get metas m ≡ Some decl → slice_get others (new m) ≡ Some decl

-- each of the names that stands in the entry of a known variable keeps its number
abbrev pub KeepsKnowns : (ℕ → ℕ) → (metas : List MetaDecl) → List KnownVariable → Type 0
KeepsKnowns new metas knowns = (m : ℕ) → OccursInKnowns m knowns → m < length metas → new m ≡ m

-- a scope with other metavariables
abbrev pub with_metas : ReadingScope → List MetaDecl → ReadingScope
with_metas scope metas =
    record {
      names = record { root = scope.names.root; metas = metas; knowns = scope.names.knowns };
      vars = scope.vars;
      fresh = scope.fresh;
    }

-- The second names are the first in another order: `there` gives the new number of each, and `back` the old one.
pub record AreReordered (metas others : List MetaDecl) (there back : ℕ → ℕ) : Type 0 where
  pub kept : (m : ℕ) → m < length metas → slice_get others (there m) ≡ slice_get metas m
  pub from : (m : ℕ) → m < length others → slice_get metas (back m) ≡ slice_get others m
  pub again : (m : ℕ) → m < length others → there (back m) ≡ m
