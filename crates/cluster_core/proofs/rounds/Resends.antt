-- A Resend sends each command that is outstanding.
use Rattle.std.proofs.Common.{◌≡◌, ℕ, true, subst, List, ◌++◌, Result, Ok, Err}
use Rattle.model.specs.rule.Limits.{IsNumber}
use Rattle.messages.specs.rule.Messages.{is_among, sending}
use Rattle.messages.specs.declared.message.Message.{Message}
use Rattle.messages.specs.declared.event.Event.TheVariants.{AtServer}
use Rattle.messages.specs.declared.event.ServerInput.TheVariants.{Resend}
use Rattle.messages.specs.declared.entry.Entry.{Entry}
use Rattle.messages.specs.declared.outcome.Outcome.{Outcome}
use Rattle.messages.specs.declared.refusal.StepError.{StepError}
use Rattle.token_server.specs.declared.event.ServerEvent.TheVariants as server
use Rattle.token_server.specs.rule.Rows.{outstanding_of}
use Rattle.token_server.specs.rule.State.{ServerState, requeued}
use Rattle.token_server.specs.rule.Serve.{serve}
use Rattle.token_server.specs.rule.Resends.{outstanding, sending_first}
use Rattle.token_server.specs.rule.Server.{server_rule}
use Rattle.cluster_core.specs.rule.World.{WorldState}
use Rattle.cluster_core.specs.rule.Next.{next}
use Rattle.cluster_core.specs.rule.Rounds.{IsOutstanding}
use Rattle.cluster_core.proofs.common.Refusals.{ok_is}
use Rattle.cluster_core.proofs.steps.KnownMessages.{sent_before}
use Rattle.cluster_core.proofs.steps.Steps.{next_taken, server_step}
use Rattle.cluster_core.proofs.tokens.Starts.{numbered_among}

sends_first : (s : ServerState) (m : Message) (done : ServerState × Outcome) → is_among (outstanding s) m ≡ true → sending_first (outstanding s) (serve (requeued s)) ≡ Ok done → is_among done.1.sends m ≡ true
sends_first s m done among is = by (serve (requeued s)) is
  where
    by : (x : Result (ServerState × List Message) StepError) → sending_first (outstanding s) x ≡ Ok done → is_among done.1.sends m ≡ true
    by (Err e) h = absurd (cc)
    by (Ok served) h = subst (λ (d : ServerState × Outcome). is_among d.1.sends m ≡ true) (ok_is (served.0, sending (outstanding s ++ served.1)) done h) (sent_before (outstanding s) served.1 m among)

pub resend_sends : (w : WorldState) (file n : ℕ) (m : Message) (q : WorldState × Entry) → IsNumber (w.servers file).shape.nodes n → IsOutstanding w file n m → next w (AtServer file Resend) ≡ Ok q → is_among q.1.sends m ≡ true
resend_sends w file n m q number u h =
    let s = w.servers file in
    let among : is_among (outstanding s) m ≡ true = numbered_among (λ k. outstanding_of (s.rows k)) s.shape.nodes n m number.0 number.1 u.outstanding in
    server_step w (λ p. is_among p.1.sends m ≡ true) (AtServer file Resend) file (server_rule s (server.Input Resend)) q (λ done is. sends_first s m done among is) (next_taken w (AtServer file Resend) q h).1
