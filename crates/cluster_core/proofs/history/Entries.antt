-- Calls and replies of a run that goes on by one entry.
use Rattle.std.proofs.Common.{◌≡◌, ℕ, ◌+◌, ◌≤◌, ◌⊎◌, inl, inr, refl, sym, ◌∙◌, ap, arith, List, [], ◌∷◌, ◌++◌, length, slice_get, Option, Some, None}
use Rattle.std.proofs.lemmas.Option.{slice_get_within, none-some}
use Rattle.model.specs.declared.call.CallId.{CallId}
use Rattle.model.specs.declared.op.Op.{Op}
use Rattle.model.specs.declared.reply.Reply.{Reply}
use Rattle.messages.specs.declared.event.Event.TheVariants.{AtNode}
use Rattle.messages.specs.declared.event.NodeInput.TheVariants.{Call}
use Rattle.messages.specs.declared.entry.Entry.{Entry}
use Rattle.cluster_core.specs.rule.Histories.{EntryAt, IsCalledAt, IsRepliedAt, OneCall, OneReply}
use Rattle.cluster_core.proofs.common.Places.{slice_get-keeps, slice_get-last, slice_get-push}

-- an answer that is none is no answer
pub not_there : {A : Type 0} (o : Option A) (x : A) → o ≡ None → o ≡ Some x → ⊥
not_there o x n h = none-some x (sym n ∙ h)

-- two answers that are one
pub same_answer : (o : Option (CallId × Reply)) (a b : CallId) (r q : Reply) → o ≡ Some (a, r) → o ≡ Some (b, q) → (a ≡ b) × (r ≡ q)
same_answer o a b r q x y = let both : ◌≡◌ {A = CallId × Reply} (a, r) (b, q) = cc in (ap (λ (p : CallId × Reply). p.0) both, ap (λ (p : CallId × Reply). p.1) both)

pub entry_at-keeps : (es fs : List Entry) (at : ℕ) (e : Entry) → EntryAt es at e → EntryAt (es ++ fs) at e
entry_at-keeps es fs at e h = (h.0, h.1, slice_get-keeps es fs h.0 e h.2)

pub entry_at-last : (es : List Entry) (e : Entry) → EntryAt (es ++ e ∷ []) (length es + 1) e
entry_at-last es e = (length es, refl, slice_get-last es e)

pub entry_at-push : (es : List Entry) (e d : Entry) (at : ℕ) → EntryAt (es ++ e ∷ []) at d → EntryAt es at d ⊎ ((at ≡ length es + 1) × (e ≡ d))
entry_at-push es e d at h = elim (slice_get-push es e h.0 d h.2) [
  | inl old ↦ inl (h.0, h.1, old)
  | inr new ↦ inr (h.1 ∙ ap (λ (k : ℕ). k + 1) new.0, new.1)
]

pub entry_at-within : (es : List Entry) (at : ℕ) (e : Entry) → EntryAt es at e → at ≤ length es
entry_at-within es at e h = let place = h.1 in let lt = slice_get_within es h.0 e h.2 in omega arith

-- a call of the run is one of the longer run
pub called_at-keeps : (es fs : List Entry) (id : CallId) (pid : ℕ) (op : Op) (at : ℕ) → IsCalledAt es id pid op at → IsCalledAt (es ++ fs) id pid op at
called_at-keeps es fs id pid op at c = record { calling = c.calling; there = entry_at-keeps es fs at c.calling c.there; is_call = c.is_call; named = c.named }

pub called_at-last : (es : List Entry) (e : Entry) (id : CallId) (pid : ℕ) (op : Op) → e.event ≡ AtNode id.node (Call pid op) → e.call ≡ Some id → IsCalledAt (es ++ e ∷ []) id pid op (length es + 1)
called_at-last es e id pid op event named = record { calling = e; there = entry_at-last es e; is_call = event; named = named }

pub called_at-push : (es : List Entry) (e : Entry) (id : CallId) (pid : ℕ) (op : Op) (at : ℕ) → IsCalledAt (es ++ e ∷ []) id pid op at → IsCalledAt es id pid op at ⊎ ((at ≡ length es + 1) × (e.call ≡ Some id))
called_at-push es e id pid op at c = elim (entry_at-push es e c.calling at c.there) [
  | inl old ↦ inl (record { calling = c.calling; there = old; is_call = c.is_call; named = c.named })
  | inr new ↦ inr (new.0, ap (λ (x : Entry). x.call) new.1 ∙ c.named)
]

-- a reply of the run is one of the longer run
pub replied_at-keeps : (es fs : List Entry) (id : CallId) (reply : Reply) (at : ℕ) → IsRepliedAt es id reply at → IsRepliedAt (es ++ fs) id reply at
replied_at-keeps es fs id reply at r = record { replying = r.replying; there = entry_at-keeps es fs at r.replying r.there; is_reply = r.is_reply }

pub replied_at-last : (es : List Entry) (e : Entry) (id : CallId) (reply : Reply) → e.reply ≡ Some (id, reply) → IsRepliedAt (es ++ e ∷ []) id reply (length es + 1)
replied_at-last es e id reply is = record { replying = e; there = entry_at-last es e; is_reply = is }

pub replied_at-push : (es : List Entry) (e : Entry) (id : CallId) (reply : Reply) (at : ℕ) → IsRepliedAt (es ++ e ∷ []) id reply at → IsRepliedAt es id reply at ⊎ ((at ≡ length es + 1) × (e.reply ≡ Some (id, reply)))
replied_at-push es e id reply at r = elim (entry_at-push es e r.replying at r.there) [
  | inl old ↦ inl (record { replying = r.replying; there = old; is_reply = r.is_reply })
  | inr new ↦ inr (new.0, ap (λ (x : Entry). x.reply) new.1 ∙ r.is_reply)
]

-- an entry of the run names the call
pub record IsNamed (es : List Entry) (id : CallId) : Type 0 where
  pub place : ℕ
  pub naming : Entry
  pub there : slice_get es place ≡ Some naming
  pub named : naming.call ≡ Some id

pub named_called : (es : List Entry) (id : CallId) (pid : ℕ) (op : Op) (at : ℕ) → IsCalledAt es id pid op at → IsNamed es id
named_called es id pid op at c = record { place = c.there.0; naming = c.calling; there = c.there.2; named = c.named }

pub named-push : (es : List Entry) (e : Entry) (id : CallId) → IsNamed (es ++ e ∷ []) id → IsNamed es id ⊎ (e.call ≡ Some id)
named-push es e id n = elim (slice_get-push es e n.place n.naming n.there) [
  | inl old ↦ inl (record { place = n.place; naming = n.naming; there = old; named = n.named })
  | inr new ↦ inr (ap (λ (x : Entry). x.call) new.1 ∙ n.named)
]

-- no reply to the call stands in the run
abbrev pub Unanswered : List Entry → CallId → Type 0
Unanswered es id = (reply : Reply) (at : ℕ) → IsRepliedAt es id reply at → ⊥

pub unanswered-push : (es : List Entry) (e : Entry) (id : CallId) → Unanswered es id → ((reply : Reply) → e.reply ≡ Some (id, reply) → ⊥) → Unanswered (es ++ e ∷ []) id
unanswered-push es e id none new reply at r = elim (replied_at-push es e id reply at r) [ inl old ↦ none reply at old | inr last ↦ new reply last.1 ]

-- a call is made once
pub one_call-push : (es : List Entry) (e : Entry) → OneCall es → ((id : CallId) → e.call ≡ Some id → IsNamed es id → ⊥) → OneCall (es ++ e ∷ [])
one_call-push es e one fresh id p q o u j k a b = elim (called_at-push es e id p o j a) [
  | inl first ↦ elim (called_at-push es e id q u k b) [
    | inl second ↦ one id p q o u j k first second
    | inr second ↦ absurd (fresh id second.1 (named_called es id p o j first))
  ]
  | inr first ↦ elim (called_at-push es e id q u k b) [
    | inl second ↦ absurd (fresh id first.1 (named_called es id q u k second))
    | inr second ↦ first.0 ∙ sym second.0
  ]
]

-- a call has one reply
pub one_reply-push : (es : List Entry) (e : Entry) → OneReply es → ((id : CallId) (reply : Reply) → e.reply ≡ Some (id, reply) → Unanswered es id) → OneReply (es ++ e ∷ [])
one_reply-push es e one fresh id r q j k a b = elim (replied_at-push es e id r j a) [
  | inl first ↦ elim (replied_at-push es e id q k b) [
    | inl second ↦ one id r q j k first second
    | inr second ↦ absurd (fresh id q second.1 r j first)
  ]
  | inr first ↦ elim (replied_at-push es e id q k b) [
    | inl second ↦ absurd (fresh id r first.1 q k second)
    | inr second ↦ first.0 ∙ sym second.0
  ]
]

-- in the empty run nothing is called or answered
pub none_named : (id : CallId) → IsNamed [] id → ⊥
none_named id n = let h = n.there in cc

pub none_called : (id : CallId) (pid : ℕ) (op : Op) (at : ℕ) → IsCalledAt [] id pid op at → ⊥
none_called id pid op at c = none_named id (named_called [] id pid op at c)

pub none_replied : (id : CallId) (reply : Reply) (at : ℕ) → IsRepliedAt [] id reply at → ⊥
none_replied id reply at r = let h = r.there.2 in cc
