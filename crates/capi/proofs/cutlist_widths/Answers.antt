-- `cutlist_widths` meets its contract, by those of `assemble` and the width table.
-- Assumes nothing.
use mathlib.Core.Path.{ap, ◌∙◌}
use Rattle.widths.specs.Widths.{Widths, widths_of}
use Rattle.capi.proofs.cutlist_widths.Goals as goal

pub returns-in-Ok : goal.returns-in-Ok
returns-in-Ok c =
    let N = c.assemble-to_count.ensures in
    let widths = c.in-Ok.ensures.value ∙ ap (λ N. widths_of N c.args.cuts.now) N in
    record {
      tabled = record { refusal = ap (λ (w : Widths). w.refusal) widths; counts = ap (λ (w : Widths). w.counts) widths };
      means = rw N at c.in-Ok.ensures.means;
    }

pub returns-in-Err : goal.returns-in-Err
returns-in-Err c =
    let N = c.assemble-to_count.ensures in
    let widths = c.in-Err.ensures.value ∙ ap (λ N. widths_of N c.args.cuts.now) N in
    record {
      tabled = record {
        refusal = c.from.ensures ∙ ap (λ (w : Widths). w.refusal) widths;
        counts = ap (λ (w : Widths). w.counts) widths;
      };
      means = rw (c.from.ensures) (rw N at c.in-Err.ensures.means);
    }
