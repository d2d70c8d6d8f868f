-- The categories that stacked locals stand for, the innermost first.
use Rattle.std.specs.Prelude.{ℕ, List, ◌++◌, map, reverse}
use Rattle.binding_terms.specs.Signature.{binders}
use Rattle.binding_terms.specs.Scope.{bound}
use Rattle.form_scopes.specs.declared.locals.Locals.{Locals, fold-Locals}
use Rattle.form_scopes.specs.declared.locals.Locals.TheOpen.{Locals-F}

-- one level: what stands outside, or the binders of a slot before what stands around it
abbrev pub level : Locals-F (List ℕ) → List ℕ
level (Locals-F.Outer cats) = reverse (map (λ c. c.0) cats.now)
level (Locals-F.Under items binds outer) = bound (binders items.now) binds.now ++ outer.now

-- the categories of locals
abbrev pub categories : Locals → List ℕ
categories = fold-Locals (List ℕ) level
