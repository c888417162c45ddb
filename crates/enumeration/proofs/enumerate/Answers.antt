-- `enumerate` meets its contract: the rows in which the source joins are all rows.
-- Assumes nothing.
use mathlib.Core.Path.{refl, subst}
use Prim.Native.Nat.{ℕ}
use native.Mathlib.Omega.{arith}
use borrow.Author.Rules.{rules}
use Rattle.graph.specs.Cuts.{only}
use Rattle.graph.proofs.Sound.{Sound, accepted-sound}
use Rattle.branches.specs.Enumeration.{relevant_network}
use Rattle.branches.proofs.Part.{part-bounded}
use Rattle.adjacency.specs.Adjacency.{Adjacency}
use Rattle.enumeration.specs.Tables.{Incidence, TablesOf}
use Rattle.enumeration.proofs.First.{relevant-present, blank-fed, source_free, blank-hangs, put_all}
use Rattle.enumeration.proofs.enumerate.Goals as goal

pub adjacency-adjacent-requires : goal.adjacency-adjacent-requires
adjacency-adjacent-requires c =
    let part = c.args.part in
    let N = part.accepted.network in
    search (rules, relevant-present N (accepted-sound N (search rules) part.accepted.accepted) _ part.relevant_edges)

pub incidence-incident-requires : goal.incidence-incident-requires
incidence-incident-requires c =
    let part = c.args.part in
    let N = part.accepted.network in
    relevant-present N (accepted-sound N (search rules) part.accepted.accepted) _ part.relevant_edges

pub join-requires : goal.join-requires
join-requires c =
    let N = c.args.part.accepted.network in
    let S : Sound N = accepted-sound N (search rules) c.args.part.accepted.accepted in
    (omega (arith, S.source-lt, S.small), source_free N S _ c.blank.ensures, omega arith)

pub returns : goal.returns
unfolding only
returns c =
    let part = c.args.part in
    let N = part.accepted.network in
    let S : Sound N = accepted-sound N (search rules) part.accepted.accepted in
    let tables : TablesOf (relevant_network N) _ = record {
      bounded = part-bounded N S;
      nodes = subst (λ (s : ℕ). Adjacency (only N s) c.adjacency-adjacent.result) part.relevant_edges c.adjacency-adjacent.ensures;
      edges = subst (λ (s : ℕ). Incidence (only N s) c.incidence-incident.result) part.relevant_edges c.incidence-incident.ensures;
      sink = refl;
    } in
    let none = c.blank.ensures in
    let fed = blank-fed N S _ none in
    let put = put_all N S _ none _ _ _ _ _ _ _ (c.join.ensures.put (relevant_network N) tables fed (blank-hangs N S _ none)) in
    record { count = put.count; put-cuts = search (rules, put.put-cuts); put_sides = search (rules, put.put_sides) }
