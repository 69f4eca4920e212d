-- `judge` fills the slices by the judgement, and answers by it.
use Rattle.std.proofs.Common.{◌∙◌}
use Rattle.clocks_read.specs.Laws.{nothing_refused}
use Rattle.clocks_read.proofs.Paths.{measured_is, measured_stays, judge_refused, judge_accepted}
use Rattle.clocks_read.proofs.judge.Goals as goal

pub returns-in_err-m : goal.returns-in_err-m
returns-in_err-m c = record {
  loading = measured_stays c.args.measured _ _ _ c.from_residual.result c.in_err-m.was c.from_residual.ensures.1;
  refused = nothing_refused c.from_residual.result;
}

pub returns-in_err-map_err : goal.returns-in_err-map_err
returns-in_err-map_err c = record {
  loading = judge_refused c.in_ok-m.m.text _ _ _ _ c.judge.result c.map_err.result c.judge.ensures c.map_err.ensures.cases
      c.in_err-map_err.field-0.0 _ c.in_err-map_err.was c.from_residual-in_err-map_err.ensures.1
      ∙ measured_is c.args.measured c.in_ok-m.m _ _ c.in_ok-m.was;
  refused = nothing_refused c.from_residual-in_err-map_err.result;
}

pub returns : goal.returns
returns c = record {
  loading = judge_accepted c.in_ok-m.m.text _ _ _ _ c.judge.result c.map_err.result c.judge.ensures c.map_err.ensures.cases
      _ c.in_ok-map_err.was (rw c.in_ok-m.was at c.requires.0).count
      ∙ measured_is c.args.measured c.in_ok-m.m _ _ c.in_ok-m.was;
  refused = tt;
}
