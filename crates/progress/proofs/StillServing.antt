-- After a run each step of a token server leaves it serving.
use Rattle.std.proofs.Common.{◌≡◌, ℕ, Ok, List}
use Rattle.messages.specs.rule.Shapes.{ShapeFields, IsShape}
use Rattle.messages.specs.declared.message.Message.{Message}
use Rattle.messages.specs.declared.message.Message.TheVariants.{Request, Grant, Revoke, Taken, Released, Conflict, Deny, Freed, Hello, Report}
use Rattle.messages.specs.declared.entry.Entry.{Entry}
use Rattle.messages.specs.declared.outcome.Outcome.{Outcome}
use Rattle.token_server.specs.declared.event.ServerEvent.{ServerEvent}
use Rattle.token_server.specs.declared.event.ServerEvent.TheVariants as server
use Rattle.token_server.specs.rule.State.{ServerState}
use Rattle.token_server.specs.rule.Server.{server_rule}
use Rattle.cluster_core.specs.rule.World.{WorldState, first_world}
use Rattle.cluster_core.specs.rule.Runs.{Leads}
use Rattle.cluster_core.specs.rule.Serving.{BringsWanted, IsServing}
use Rattle.cluster_core.proofs.history.Witnesses.{Backed, asked_order}
use Rattle.cluster_core.proofs.rounds.Serving.{serving-run}
use Rattle.cluster_core.proofs.rounds.ServerSteps.{each_server-serving}
use Rattle.cluster_core.proofs.runs.Runs.{good_run}
use Rattle.cluster_core.proofs.steps.NodeTokens.{all_among}
use Rattle.cluster_core.proofs.tokens.Present.{Was}

-- the message that the event delivers was sent
abbrev pub WasSent : WorldState → ServerEvent → Type 0
WasSent w (server.Deliver m) = Was w m
WasSent w (server.Input input) = Unit {0}

wanted_of : (shape : ShapeFields) (past : List Entry) (w : WorldState) (m : Message) → Backed shape past w m → BringsWanted (server.Deliver m)
wanted_of shape past w (Request file call blocking mode wanted) b = record { ordered = asked_order shape past file call mode wanted.required b.0; starts = b.3.starts; ends = b.3.ends }
wanted_of shape past w (Grant file number call mode span) b = tt
wanted_of shape past w (Revoke file number holder call mode wanted) b = tt
wanted_of shape past w (Taken file number call) b = tt
wanted_of shape past w (Released file number holder call span) b = tt
wanted_of shape past w (Conflict file number holder call lock) b = tt
wanted_of shape past w (Deny file call holder number lock) b = tt
wanted_of shape past w (Freed file holder) b = tt
wanted_of shape past w (Hello file number holder) b = tt
wanted_of shape past w (Report file number holder runs) b = tt

module _ (shape : ShapeFields) (is : IsShape shape) (past : List Entry) (w : WorldState) (before : Leads (first_world shape) past w) where
  brings : (step : ServerEvent) → WasSent w step → BringsWanted step
  brings (server.Deliver m) sent = wanted_of shape past w m (all_among (Backed shape past w) w.sent m (good_run shape past w is before).0.backed sent)
  brings (server.Input input) sent = tt

  pub still_serving : (file : ℕ) (step : ServerEvent) (done : ServerState × Outcome) → WasSent w step → server_rule (w.servers file) step ≡ Ok done → IsServing done.0
  still_serving file step done sent h = each_server-serving.step (w.servers file) step done.0 done.1 h (brings step sent) (serving-run shape past w is before file)
