-- The scope that stacked frames stand for.
use Rattle.std.specs.Prelude.{ℕ, List, ◌++◌, map, reverse}
use Rattle.binding_terms.specs.Signature.{binders}
use Rattle.binding_terms.specs.Scope.{bound}
use Rattle.binding_terms.specs.declared.scope.Frames.{Frames, fold-Frames}
use Rattle.binding_terms.specs.declared.scope.Frames.TheOpen.{Frames-F}

abbrev pub level : Frames-F (List ℕ) → List ℕ
level (Frames-F.Outer cats) = reverse (map (λ c. c.0) cats.now)
level (Frames-F.Under items binds outer) = bound (binders items.now) binds.now ++ outer.now

abbrev pub scope_of : Frames → List ℕ
scope_of = fold-Frames (List ℕ) level
