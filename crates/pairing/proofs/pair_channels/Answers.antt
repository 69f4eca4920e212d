-- `pair_channels` is `pairing`, by what its parts ensure.
use borrow.Author.Rules.{rules}
use Prim.Native.Nat.{◌≤◌}
use Rattle.pairing.proofs.Turns.{pairing_done}
use Rattle.limits.specs.Limits.{channel_limit}
use Rattle.pairing.proofs.pair_channels.Goals as goal
use Rattle.pairing.proofs.pair_channels.Goals.{After-channels_of-theirs}

-- no more channels than a text has
few : (c : After-channels_of-theirs) → (c.channels_of-ours.result.count ≤ channel_limit)
    × (c.channels_of-theirs.result.count ≤ channel_limit)
few c =
    let pre = c.requires in
    (rw c.channels_of-ours.ensures pre.0.channels, rw c.channels_of-theirs.ensures pre.1.channels)

pub unmatched_of-c-requires : goal.unmatched_of-c-requires
unmatched_of-c-requires c = few (goal.at.unmatched_of-c-requires c).After-channels_of-theirs

pub unmatched_of-d-requires : goal.unmatched_of-d-requires
unmatched_of-d-requires c = ((few (goal.at.unmatched_of-d-requires c).After-channels_of-theirs).1, (few (goal.at.unmatched_of-d-requires c).After-channels_of-theirs).0)

pub steps_of-map-requires : goal.steps_of-map-requires
steps_of-map-requires c = few (goal.at.steps_of-map-requires c).After-channels_of-theirs

pub returns : goal.returns
returns c =
    let args = c.args in
    pairing_done args.left.now args.l args.right.now args.r _ _ c.channels_of-ours.ensures
    c.channels_of-theirs.ensures _ _ c.unmatched_of-c.ensures
    c.unmatched_of-d.ensures _ c.verdict_of-answer.ensures _ c.steps_of-map.ensures
