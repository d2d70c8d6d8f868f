-- What instances and substitutions keep, and how one goes after another.
use Rattle.std.specs.Prelude.{◌≡◌, ℕ, ◌+◌, ◌≤◌, List, [], ◌++◌, length, slice_get}
use Rattle.std.specs.List.{AllByRecursion}
use Rattle.binding_terms.specs.Tree as terms
use Rattle.binding_terms.specs.Signature.{Signature, Fits}
use Rattle.binding_terms.specs.Scope.{IsTerm}
use Rattle.scheme_terms.specs.SchemeTree.{SchemeTree, shifted, StrictIn, OccursIn, KnownIn}
use Rattle.scheme_terms.specs.Forms.{Names, Substitution, Instance}
use Rattle.scheme_terms.specs.Embedding.{embedded}
use Rattle.scheme_terms.specs.Demands.{Demands}
use Rattle.scheme_terms.specs.Context.{scope_of}
use Rattle.scheme_terms.specs.Instance.{instance_of, value_of, place_of, FitsScope}
use Rattle.scheme_terms.specs.SchemeScope.{IsScheme, IsRoot, KnownsFit}
use Rattle.scheme_terms.specs.Substituting.{scheme_for, known_for, applied, composed, followed, identity, Suits, IsSaturated, LocalsBelow, IsSubstitution}
use Rattle.scheme_terms.specs.declared.scheme.MetaDecl.{MetaDecl}

-- the instance of a scheme in which schemes were put in is the instance of the scheme under the substitution followed by the instance
abbrev pub InstanceOfApplied : Type 0
InstanceOfApplied =
    (metas : List MetaDecl) (by : Substitution) (inst : Instance) (d : ℕ) (s : SchemeTree) → IsSaturated metas s → Suits by.metas by.knowns s →
    instance_of inst d (applied by.metas by.knowns d s) ≡ instance_of (followed metas by inst) d s

-- the same of a scheme of a scope, under locals
abbrev pub InstanceOfAppliedScheme : Type 0
InstanceOfAppliedScheme =
    (sig : Signature) (scope : Names) (by : Substitution) (inst : Instance) (locals : List ℕ) (c : ℕ) (s : SchemeTree) →
    IsSubstitution sig scope by → IsScheme sig scope locals c s →
    instance_of inst (length locals) (applied by.metas by.knowns (length locals) s) ≡ instance_of (followed scope.metas by inst) (length locals) s

-- the instance of a scheme of a category is a term of the category, in the scope of the root's variables and the scheme's locals
abbrev pub InstanceKeepsScope : Type 0
InstanceKeepsScope =
    (sig : Signature) (scope : Names) (inst : Instance) (locals : List ℕ) (c : ℕ) (s : SchemeTree) → Fits sig → IsRoot sig scope.root →
    FitsScope sig scope inst → IsScheme sig scope locals c s → IsTerm sig (locals ++ scope_of sig inst.root) c (instance_of inst (length locals) s)

-- the same in a scope without known variables, over any signature
abbrev pub InstanceKeepsScopeOfMetas : Type 0
InstanceKeepsScopeOfMetas =
    (sig : Signature) (scope : Names) (inst : Instance) (locals : List ℕ) (c : ℕ) (s : SchemeTree) → scope.knowns ≡ [] →
    FitsScope sig scope inst → IsScheme sig scope locals c s → IsTerm sig (locals ++ scope_of sig inst.root) c (instance_of inst (length locals) s)

-- two instances that give a scheme the same instance give a metavariable with a strict occurrence in it the same value
abbrev pub StrictAgreement : Type 0
StrictAgreement =
    (first second : Instance) (d m : ℕ) (s : SchemeTree) → LocalsBelow d s → StrictIn m s →
    instance_of first d s ≡ instance_of second d s → value_of first m ≡ value_of second m

-- the same of two instances of a scope
abbrev pub StrictAgreementInScope : Type 0
StrictAgreementInScope =
    (sig : Signature) (scope : Names) (first second : Instance) (locals : List ℕ) (c m : ℕ) (s : SchemeTree) →
    FitsScope sig scope first → FitsScope sig scope second → IsScheme sig scope locals c s → StrictIn m s →
    instance_of first (length locals) s ≡ instance_of second (length locals) s → slice_get first.metas m ≡ slice_get second.metas m

-- where a pattern becomes its instance, what is asked of a metavariable is its value, and a strict occurrence asks for it
abbrev pub InstanceAsksForValues : Type 0
InstanceAsksForValues =
    (inst : Instance) (m d : ℕ) (s : SchemeTree) → LocalsBelow d s →
    ((v : SchemeTree) → Demands m d s (embedded (instance_of inst d s)) v → v ≡ embedded (value_of inst m))
    × (StrictIn m s → Demands m d s (embedded (instance_of inst d s)) (embedded (value_of inst m)))

-- the same where schemes are put in for its names
abbrev pub SubstitutionAsksForSchemes : Type 0
SubstitutionAsksForSchemes =
    (by : Substitution) (m d : ℕ) (s : SchemeTree) → LocalsBelow d s →
    ((v : SchemeTree) → Demands m d s (applied by.metas by.knowns d s) v → v ≡ scheme_for by.metas m)
    × (StrictIn m s → Demands m d s (applied by.metas by.knowns d s) (scheme_for by.metas m))

-- a scheme whose names have values suits all locals around it alike
abbrev pub AppliedAnywhere : Type 0
AppliedAnywhere =
    (by : Substitution) (d e : ℕ) (s : SchemeTree) → Suits by.metas by.knowns s → applied by.metas by.knowns d s ≡ applied by.metas by.knowns e s

-- raising a scheme and putting in go in either order
abbrev pub AppliedRaised : Type 0
AppliedRaised =
    (by : Substitution) (cut d n : ℕ) (s : SchemeTree) → cut ≤ d →
    applied by.metas by.knowns (d + n) (shifted cut n s) ≡ shifted cut n (applied by.metas by.knowns d s)

-- one substitution after another is their composition
abbrev pub AppliedTwice : Type 0
AppliedTwice =
    (first after : Substitution) (d : ℕ) (s : SchemeTree) → Suits first.metas first.knowns s → AllByRecursion (Suits after.metas after.knowns) first.metas →
    applied after.metas after.knowns d (applied first.metas first.knowns d s) ≡ applied (composed first after).metas (composed first after).knowns d s

-- a scheme keeps its category where it is raised over new locals
abbrev pub ShiftKeepsScheme : Type 0
ShiftKeepsScheme =
    (sig : Signature) (scope : Names) (inner new outer : List ℕ) (c : ℕ) (s : SchemeTree) → IsScheme sig scope (inner ++ outer) c s →
    IsScheme sig scope (inner ++ (new ++ outer)) c (shifted (length inner) (length new) s)

-- what a substitution makes of a scheme of a category is a scheme of the category in the substitution's scope
abbrev pub ApplyKeepsScope : Type 0
ApplyKeepsScope =
    (sig : Signature) (scope : Names) (by : Substitution) (locals : List ℕ) (c : ℕ) (s : SchemeTree) → IsSubstitution sig scope by →
    IsScheme sig scope locals c s → IsScheme sig by.into locals c (applied by.metas by.knowns (length locals) s)

-- the instance of a raised scheme
abbrev pub InstanceRaised : Type 0
InstanceRaised =
    (inst : Instance) (cut d n : ℕ) (s : SchemeTree) → cut ≤ d →
    instance_of inst (d + n) (shifted cut n s) ≡ terms.shifted cut n (instance_of inst d s)

-- one substitution after another, of schemes of a scope
abbrev pub AppliedTwiceInScope : Type 0
AppliedTwiceInScope =
    (sig : Signature) (scope : Names) (first after : Substitution) (locals : List ℕ) (c : ℕ) (s : SchemeTree) →
    IsSubstitution sig scope first → IsSubstitution sig first.into after → IsScheme sig scope locals c s →
    applied after.metas after.knowns (length locals) (applied first.metas first.knowns (length locals) s)
    ≡ applied (composed first after).metas (composed first after).knowns (length locals) s

-- the composition of substitutions is one
abbrev pub ComposedIsSubstitution : Type 0
ComposedIsSubstitution =
    (sig : Signature) (scope : Names) (first after : Substitution) → KnownsFit sig scope →
    IsSubstitution sig scope first → IsSubstitution sig first.into after → IsSubstitution sig scope (composed first after)

-- a substitution followed by an instance of its scope is an instance of the scope from which it goes, where both have one root
abbrev pub FollowedFits : Type 0
FollowedFits =
    (sig : Signature) (scope : Names) (by : Substitution) (inst : Instance) → Fits sig → IsRoot sig scope.root → KnownsFit sig scope →
    by.into.root ≡ scope.root → IsSubstitution sig scope by → FitsScope sig by.into inst → FitsScope sig scope (followed scope.metas by inst)

-- the identity changes no scheme whose metavariables have their arguments
abbrev pub IdentityChangesNothing : Type 0
IdentityChangesNothing =
    (scope : Names) (d : ℕ) (s : SchemeTree) → IsSaturated scope.metas s → applied (identity scope).metas (identity scope).knowns d s ≡ s

-- so no scheme of the scope
abbrev pub IdentityKeepsSchemes : Type 0
IdentityKeepsSchemes =
    (sig : Signature) (scope : Names) (locals : List ℕ) (c : ℕ) (s : SchemeTree) → IsScheme sig scope locals c s →
    applied (identity scope).metas (identity scope).knowns (length locals) s ≡ s

-- the identity is a substitution from the scope into itself
abbrev pub IdentityIsSubstitution : Type 0
IdentityIsSubstitution = (sig : Signature) (scope : Names) → KnownsFit sig scope → IsSubstitution sig scope (identity scope)

-- substitutions that agree on the names of a scheme make the same of it
abbrev pub SubstitutionsAgree : Type 0
SubstitutionsAgree =
    (first second : Substitution) (d : ℕ) (s : SchemeTree) → ((m : ℕ) → OccursIn m s → scheme_for first.metas m ≡ scheme_for second.metas m) →
    ((k : ℕ) → KnownIn k s → known_for first.knowns k ≡ known_for second.knowns k) →
    applied first.metas first.knowns d s ≡ applied second.metas second.knowns d s

-- instances of one length that agree on the names of a scheme give it the same instance
abbrev pub InstancesAgree : Type 0
InstancesAgree =
    (first second : Instance) (d : ℕ) (s : SchemeTree) → length first.root.entries ≡ length second.root.entries →
    ((m : ℕ) → OccursIn m s → value_of first m ≡ value_of second m) → ((k : ℕ) → KnownIn k s → place_of first k ≡ place_of second k) →
    instance_of first d s ≡ instance_of second d s
