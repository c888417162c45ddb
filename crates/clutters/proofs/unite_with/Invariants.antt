-- `unite_with` meets its contract. The invariant: the unions with the sets so far stand in front. Assumes nothing.
use mathlib.Core.List.{map}
use lib.Bits.{bit_or}
use lib.ListN.{take}
use Rattle.clutters.specs.Steps.{Written}
use Rattle.clutters.proofs.unite_with.Given as goal

abbrev pub invariant-loop-k : goal.invariant-loop-k
invariant-loop-k l = Written (map (bit_or l.set) (take l.k l.others)) l.initial.unions l.unions l.k
