use Rattle.std.proofs.Common.{◌+◌, ◌<◌, ◌≤◌, sym, subst, arith, length, All}
use Rattle.std.proofs.lemmas.List.Elements.{All-weaker}
use Rattle.merges.specs.declared.logged.LoggedEntry.{LoggedEntry}
use Rattle.merges.specs.declared.logged.LoggedChange.{LoggedChange}
use Rattle.merges.specs.rule.Merges.{LogFields}
use Rattle.merges.specs.code.Merging.{fields_of}
use Rattle.merges.proofs.Floors.{ends_more, raised_good, raised_exact}
use Rattle.merges.proofs.merger.Merger.raise_floor.Goals as goal

pub loop-index-init : goal.loop-index-init
loop-index-init c = record {
  changes = c.least_end-floor.ensures.lower;
  logs = λ k d below. absurd (omega (arith, below));
  exact = λ moment skew last changes logs. c.least_end-floor.ensures.exact moment skew last changes;
}

pub loop-index-preserved : goal.loop-index-preserved
loop-index-preserved c =
    let logs = c.args.self.now.logs.items in
    let log : LogFields = c.index.result.now in
    let within : c.loop-index.index < length logs = omega (arith, c.loop-index-test.true, c.len-index-end.ensures, c.args.self.now.logs.ok.0) in
    record {
      changes = All-weaker (λ (x : LoggedChange). c.loop-index.floor ≤ x.interval.ended) (λ (x : LoggedChange). c.min-floor.result ≤ x.interval.ended) (λ x h. omega (arith, h, c.min-floor.ensures)) c.args.self.now.changes c.loop-index.invariant.changes;
      logs = ends_more c.loop-index.floor c.least_end.result c.min-floor.result c.loop-index.index logs log (omega (arith, c.min-floor.ensures)) (omega (arith, c.min-floor.ensures)) within c.index.ensures c.loop-index.invariant.logs c.least_end.ensures.lower;
      exact = λ moment skew last changes about.
          let one = c.loop-index.invariant.exact moment skew last changes (λ j d below. about j d (omega (arith, below))) in
          let two = c.least_end.ensures.exact moment skew last (subst (λ (l : LogFields). All (λ (y : LoggedEntry). moment ≤ y.interval.ended + skew) l.entries) (sym c.index.ensures) (about c.loop-index.index log (omega arith))) in
          omega (arith, one, two, c.min-floor.ensures);
    }

pub returns-clause-good : goal.returns-clause-good
returns-clause-good c good =
    raised_good (fields_of c.args.self.now) c.loop-index.floor good c.loop-index.invariant.changes
    (λ k d below. c.loop-index.invariant.logs k d (omega (arith, below, c.loop-index-test.false, c.len-index-end.ensures, c.args.self.now.logs.ok.0)))

pub returns-clause-exact : goal.returns-clause-exact
returns-clause-exact c good =
    raised_exact (fields_of c.args.self.now) c.loop-index.floor good
    (λ moment last changes about. c.loop-index.invariant.exact moment c.args.self.now.skew last changes
    (λ k d below. about k d (omega (arith, below, c.loop-index.auto.index-end, c.len-index-end.ensures, c.args.self.now.logs.ok.0))))
