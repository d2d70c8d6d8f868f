use Rattle.std.proofs.Common.{◌≡◌, length, take}
use Rattle.proof_kernel.proofs.here.Here.shorten.Given as goal

abbrev pub invariant-loop-self : goal.invariant-loop-self
invariant-loop-self l = record {
  others : l.self ≡ record l.fn.self { held = l.self.held };
  front : take l.count l.self.held ≡ take l.count l.fn.self.held;
}

abbrev pub decreases-loop-self : goal.decreases-loop-self
decreases-loop-self l = length l.self.held
