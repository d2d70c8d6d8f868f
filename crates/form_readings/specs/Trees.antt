-- Contexts as readings keep them: as schemes, so that a context's reading is a tree with shared parts like that of a term. The name of its
-- category is `known 0`, an empty form `local 0`; an entry is `con` of its production over the shorter context and then its own parts; a
-- known variable's entry is `meta` of its production over its parts.
-- Held against `ReadsContext` of rule_schemes/specs/Reading.antt.
use Rattle.std.specs.Prelude.{ℕ, List, [], ◌∷◌, ◌++◌, map}
use Rattle.binding_terms.specs.declared.grammar.CatId.{CatId}
use Rattle.scheme_terms.specs.SchemeTree.{SchemeTree, meta, known, local, con, Values, no_values, value, Parts, no_parts, part}
use Rattle.scheme_terms.specs.Forms.{SchemeContext, KnownVariable}
use Rattle.scheme_terms.specs.View.{scheme_context, known_variable}
use Rattle.scheme_terms.specs.declared.scheme.Root.TheVariants.{Whole, Empty}
use Rattle.rule_schemes.specs.Reading.{bare}
use Rattle.form_readings.specs.declared.contexts.Context.{Context}

-- a context, and the known variable that it writes
abbrev pub WrittenContext : Type 0
WrittenContext = SchemeContext × List KnownVariable

-- a context with one entry more
abbrev pub with_entry : ℕ → List SchemeTree → WrittenContext → WrittenContext
with_entry p ss x = (record { root = x.0.root; entries = x.0.entries ++ record { prod = p; args = ss } ∷ [] }, x.1)

-- the whole context, and a known variable that is written with its entry
abbrev pub with_known : CatId → (name : List ℕ) → (prod : ℕ) → List SchemeTree → WrittenContext
with_known c n p ss = (record { root = Whole c; entries = [] }, record { name = n; entry = record { prod = p; args = ss } } ∷ [])

-- the schemes of arguments
abbrev pub arguments : Values → List SchemeTree
arguments no_values = []
arguments (value s vs) = s ∷ arguments vs

-- the context of the category that is kept as this scheme, where a known variable has this name
abbrev mutual
  pub context_of : CatId → (name : List ℕ) → SchemeTree → WrittenContext
  context_of c n (known k) = (record { root = Whole c; entries = [] }, [])
  context_of c n (local i) = (record { root = Empty c; entries = [] }, [])
  context_of c n (meta p vs) = with_known c n p (arguments vs)
  context_of c n (con p xs) = entry_of c n p xs

  pub entry_of : CatId → (name : List ℕ) → (prod : ℕ) → Parts → WrittenContext
  entry_of c n p no_parts = (record { root = Whole c; entries = [] }, [])
  entry_of c n p (part binds s xs) = with_entry p (bare xs) (context_of c n s)

-- what contracts see of a context
abbrev pub written_context : Context → WrittenContext
written_context c = (scheme_context c.ctx, map known_variable c.knowns)
