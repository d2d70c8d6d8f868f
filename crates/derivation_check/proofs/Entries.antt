-- The entry at a place of a context value, and its arguments raised to the whole.
use Rattle.std.proofs.Common.{◌≡◌, ℕ, zero, suc, ◌-◌, List, [], ◌∷◌, ◌++◌, length, map, refl, ◌∙◌, sym, subst, append_assoc, length-append, Some, slice_get, arith}
use Rattle.std.proofs.lemmas.Option.{same_Some}
use Rattle.binding_terms.specs.Signature.{Signature, Place}
use Rattle.binding_terms.specs.Tree.{Tree, shifted}
use Rattle.binding_terms.specs.Scope.{IsTerm}
use Rattle.binding_terms.proofs.Scopes.{shift_keeps_scope}
use Rattle.scheme_terms.specs.Forms.{GroundEntry}
use Rattle.scheme_terms.specs.Context.{AreArguments, IsEntry, AreEntries, variables, scope_after}
use Rattle.scheme_terms.proofs.Values.{AddOne}

-- what entries add to a scope
record Added (sig : Signature) (scope : List ℕ) (es : List GroundEntry) : Type 0 where
  own : List ℕ
  after : scope_after sig scope es ≡ own ++ scope
  long : length own ≡ length es

added : (sig : Signature) (scope : List ℕ) (es : List GroundEntry) → AddOne sig es → Added sig scope es
added sig scope [] one = record { own = []; after = refl; long = refl }
added sig scope (e ∷ es) one =
    let rest = added sig (variables sig e.prod ++ scope) es one.1 in
    record {
      own = rest.own ++ variables sig e.prod;
      after = rest.after ∙ sym (append_assoc rest.own (variables sig e.prod) scope);
      long = omega (arith, length-append rest.own (variables sig e.prod), rest.long, one.0);
    }

-- the entry at a place is one in the scope before it
pub record Placed (sig : Signature) (c : ℕ) (scope : List ℕ) (es : List GroundEntry) (place : ℕ) (e : GroundEntry) : Type 0 where
  pub own : List ℕ
  pub before : List ℕ
  pub after : scope_after sig scope es ≡ own ++ before
  pub long : length own ≡ length es - place
  pub entry : IsEntry sig c before e

pub placed : (sig : Signature) (c : ℕ) (scope : List ℕ) (es : List GroundEntry) (place : ℕ) (e : GroundEntry) → AddOne sig es → AreEntries sig c scope es → slice_get es place ≡ Some e → Placed sig c scope es place e
placed sig c scope [] place e one are at = absurd (let no : ⊥ = cc in no)
placed sig c scope (x ∷ es) zero e one are at =
    let all = added sig scope (x ∷ es) one in
    record { own = all.own; before = scope; after = all.after; long = all.long ∙ (let k : length (x ∷ es) ≡ length (x ∷ es) - 0 = omega arith in k); entry = subst (IsEntry sig c scope) (same_Some x e at) are.0 }
placed sig c scope (x ∷ es) (suc place) e one are at =
    let rest = placed sig c (variables sig x.prod ++ scope) es place e one.1 are.1 at in
    record { own = rest.own; before = rest.before; after = rest.after; long = rest.long ∙ (let k : length es - place ≡ length (x ∷ es) - suc place = omega arith in k); entry = rest.entry }

-- terms raised over what stands after them
pub raised_arguments : (sig : Signature) (own before : List ℕ) (n : ℕ) (ss : List Place) (ts : List Tree) → length own ≡ n → AreArguments sig before ss ts → AreArguments sig (own ++ before) ss (map (shifted 0 n) ts)
raised_arguments sig own before n [] [] e h = tt
raised_arguments sig own before n [] (t ∷ ts) e h = h
raised_arguments sig own before n (s ∷ ss) [] e h = h
raised_arguments sig own before n (s ∷ ss) (t ∷ ts) e h = (
  subst (λ k. IsTerm sig (own ++ before) s.cat (shifted 0 k t)) e (shift_keeps_scope sig [] own before s.cat t h.0),
  raised_arguments sig own before n ss ts e h.1,
)
