-- The channel that is read is one of a text.
use Rattle.std.specs.Prelude.{◌<◌, IfOk}
use Rattle.std.proofs.Common.{sym}
use Rattle.reader_parts.specs.Binds.{of_ok, beside_ok}
use Rattle.reader_parts.specs.Facts.{use_small}
use Rattle.limits.specs.Limits.{channel_limit}
use Rattle.reader_edges.proofs.label_next.Goals as goal

pub direction_at-requires : goal.direction_at-requires
direction_at-requires c =
    let small : IfOk c.use_name-used.result (λ u. u.number < channel_limit) =
    rw c.use_name-used.ensures (use_small _ _ _ _ _ _) in
    of_ok (λ u. u.number < channel_limit) small (sym (beside_ok _ _ c.in_ok-channel.ensures))

pub label_of-requires : goal.label_of-requires
label_of-requires c =
    let small : IfOk c.use_name-used.result (λ u. u.number < channel_limit) =
    rw c.use_name-used.ensures (use_small _ _ _ _ _ _) in
    of_ok (λ u. u.number < channel_limit) small (sym (beside_ok _ _ c.in_ok-channel.ensures))
