-- The first fault is the least of those that are looked for.
use Rattle.std.proofs.Common.{ℕ, List, sym, subst, inl, inr, Option, None, Some}
use Rattle.std.specs.Option.{MatchOption}
use Rattle.sy_base.specs.Tokens.{PlainToken}
use Rattle.sy_base.specs.declared.fault.Code.{Code}
use Rattle.sy_base.specs.declared.fault.Fault.{Fault}
use Rattle.outline_reader.specs.Plain.{PlainPortion}
use Rattle.user_grammar.specs.File.{categories}
use Rattle.user_grammar.specs.Fault.{IsFault, HasNoFault, IsFirstFault}
use Rattle.sy_base.specs.FirstFault.{Either, OfSome, at_token, IsEarlierOf}
use Rattle.user_grammar.specs.Finding.{IsLeast, lent_words, LentFault}
use Rattle.user_grammar.specs.FindingPlaces.{ButContexts, BadContextOf, IsTold}
use Rattle.sy_base.proofs.FirstLemmas.{found_of_two, found_same, told_is_first}
use Rattle.user_grammar.proofs.FaultJoined.{of_those, of_context, those_or_context}

-- the earlier of the least of context categories and of the others
pub least_fault : (portions : List PlainPortion) (a b r : Option LentFault) → IsEarlierOf a b r → IsLeast (ButContexts portions) a
    → IsLeast (OfSome (BadContextOf portions) (categories portions)) b → IsLeast (IsFault portions) r
least_fault portions a b r is those contexts =
    let Q : Code → PlainToken → List ℕ → Type 0 = OfSome (BadContextOf portions) (categories portions) in
    found_same at_token lent_words (Either (ButContexts portions) Q) (IsFault portions) r
    (λ c t d x. elim x [ inl y ↦ of_those portions c t d y | inr y ↦ of_context portions c t d y ]) (those_or_context portions)
    (found_of_two at_token lent_words (ButContexts portions) Q a b r is those contexts)

-- what is told of it
pub first_told : (portions : List PlainPortion) (found : Option LentFault) (r : Option Fault) → IsLeast (IsFault portions) found → IsTold found r
    → MatchOption r (HasNoFault portions) (λ fault. IsFirstFault portions fault.line fault.code fault.detail)
first_told portions None r least told = subst (λ s. MatchOption s (HasNoFault portions) (λ fault. IsFirstFault portions fault.line fault.code fault.detail)) (sym told) least.is
first_told portions (Some f) None least told = absurd told
first_told portions (Some f) (Some x) least told = told_is_first at_token lent_words (IsFault portions) f x least told
