-- `changed` meets its contract: down adds the edge, up takes it away.
-- Assumes nothing.
use mathlib.Core.Path.{◌≡◌, sym, ◌∙◌}
use Rattle.std.specs.Prelude.{Ok}
use borrow.Author.Rules.{rules}
use Rattle.bitset.proofs.Results.{with-member, without-minus}
use Rattle.replay.specs.declared.Change.TheVariants.{Up}
use Rattle.replay.proofs.Events.{changed-down, changed-up, down-command, command-down}
use Rattle.replay.proofs.changed.Goals as goal
use Rattle.replay.proofs.changed.Goals.{in_default-via-in-Ok+in_default, in_default-via-in_default}

pub returns-in-Ok-Down : goal.returns-in-Ok-Down
returns-in-Ok-Down c =
    let a = c.args in
    with-member 64 a.down.0 a.edge _ c.requires c.with.ensures
    ∙ sym (changed-down _ _ _ (down-command _ (rw c.in-Ok-Down.field-0-is at c.in-Ok-Down.ensures)))

pub returns-in_default : goal.returns-in_default
returns-in_default c =
    let a = c.args in
    without-minus a.down.0 a.edge _ c.without.ensures ∙ sym (changed-up _ _ _ (λ e.
    let read = command-down a.command e in
    elim c.in_default.branch [
      | in_default-via-in-Ok+in_default w ↦ let up : c.try_from.result ≡ Ok Up = search rules in absurd (cc)
      | in_default-via-in_default w ↦ absurd (cc)
    ]))
