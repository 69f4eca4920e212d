-- join_within: each limit that is exceeded refutes `counts_fit`; with none exceeded the record says the same.
use mathlib.Core.Path.{sym, ◌∙◌}
use Rattle.joined.specs.Joined.{joined_edges}
use Rattle.joining_record.specs.Records.{JoinsRecords}
use Rattle.joining_edges.specs.Edges.{by_map}
use Rattle.joining_record.specs.Laws.{over_edges, over_invariants, over_guards, start_small, built_fits, built_alike, built_names, fits_true}
use native.Mathlib.Omega.{arith}
use Rattle.joining_record.proofs.join_within.Goals as goal

pub returns-then-es-gt-EDGE_LIMIT : goal.returns-then-es-gt-EDGE_LIMIT
unfolding JoinsRecords
returns-then-es-gt-EDGE_LIMIT c =
    let pair-edges = c.pair_edges-es in
    let a = c.args in
    over_edges (by_map a.map) a.l a.r (pair-edges.ensures.over c.if-es-gt-EDGE_LIMIT.true)

pub overflow_mul-location_count : goal.overflow_mul-location_count
overflow_mul-location_count c =
    omega (arith, c.requires.locations)

pub has_few_invariants-requires : goal.has_few_invariants-requires
has_few_invariants-requires c =
    c.requires.locations

pub returns-then-not-has_few_invariants : goal.returns-then-not-has_few_invariants
unfolding JoinsRecords
returns-then-not-has_few_invariants c =
    let has-few-invariants = c.has_few_invariants in
    let join-locations = c.join_locations-locations in
    let if1 = c.if-es-gt-EDGE_LIMIT in
    let pair-edges = c.pair_edges-es in
    let a = c.args in
    let holds = pair-edges.ensures.within if1.false in
    over_invariants (by_map a.map) a.l a.r join-locations.result
    join-locations.ensures pair-edges.result holds
    (sym has-few-invariants.ensures ∙ c.if-not-has_few_invariants.true)

pub has_few_guards-requires : goal.has_few_guards-requires
has_few_guards-requires c =
    let if1 = c.if-es-gt-EDGE_LIMIT in
    if1.false

pub returns-then-not-has_few_guards : goal.returns-then-not-has_few_guards
unfolding JoinsRecords
returns-then-not-has_few_guards c =
    let has-few-guards = c.has_few_guards in
    let join-locations = c.join_locations-locations in
    let if1 = c.if-es-gt-EDGE_LIMIT in
    let pair-edges = c.pair_edges-es in
    let a = c.args in
    let holds = pair-edges.ensures.within if1.false in
    over_guards (by_map a.map) a.l a.r join-locations.result
    join-locations.ensures pair-edges.result holds
    (sym has-few-guards.ensures ∙ c.if-not-has_few_guards.true)

pub join_channels-channels-requires : goal.join_channels-channels-requires
join_channels-channels-requires c =
    let if1 = c.if-es-gt-EDGE_LIMIT in
    (c.requires.left.channels, if1.false)

pub overflow_add-result : goal.overflow_add-result
overflow_add-result c =
    omega (arith, c.requires.clocks)

pub overflow_mul-result : goal.overflow_mul-result
overflow_mul-result c =
    omega (arith, start_small _ _ c.requires)

pub overflow_add-result-2 : goal.overflow_add-result-2
overflow_add-result-2 c =
    omega (arith, start_small _ _ c.requires)

pub returns : goal.returns
unfolding JoinsRecords
returns c =
    let join-channels = c.join_channels-channels in
    let if3 = c.if-not-has_few_guards in
    let has-few-guards = c.has_few_guards in
    let if2 = c.if-not-has_few_invariants in
    let has-few-invariants = c.has_few_invariants in
    let join-locations = c.join_locations-locations in
    let if1 = c.if-es-gt-EDGE_LIMIT in
    let pair-edges = c.pair_edges-es in
    let a = c.args in
    let f = by_map a.map in
    let near = join-locations.ensures in
    let holds = pair-edges.ensures.within if1.false in
    let s = built_fits f a.l a.r join-locations.result near pair-edges.result holds c.requires
    (sym has-few-invariants.ensures ∙ if2.false)
    (sym has-few-guards.ensures ∙ if3.false) in
    let each = join-channels.ensures (joined_edges f a.l a.r) holds in
    record {
      fits = fits_true f a.l a.r s;
      alike = built_alike f a.l a.r join-locations.result near pair-edges.result holds s
          join-channels.result each a.l.clocks;
      names = built_names f a.l a.r join-locations.result near pair-edges.result holds s
          join-channels.result each a.l.clocks;
    }
