-- The names of nodes, calls, servers and owners: each is a word, and has one meaning.
use Rattle.std.proofs.Common.{◌≡◌, ℕ, true, ◌++◌, refl, arith, codes, decimal, zero, suc, List, [], ◌∷◌, Some, None, sym, ◌∙◌, ◌<◌, ◌^◌, Bool, not, eqb, subst, false, if◌then◌else◌, inl, inr, ap, ◌≢◌, append_assoc}
use Rattle.model.specs.declared.call.CallId.{CallId}
use Rattle.model.specs.declared.host.Host.{Host}
use Rattle.model.specs.rule.Limits.{IsCall, IsNumber, IsOwner, most_descriptions, most_nodes, most_of, most_processes}
use Rattle.messages.specs.rule.Shapes.{IsRebuilt, epoch_of, most_files}
use Rattle.texts.proofs.OneField.{append_is_one_field, decimal_is_one_field}
use Rattle.texts.specs.rule.Reads.{has_no_space, Lacks, Reads, Both, joined_text, pair_text}
use Rattle.message_text.specs.rule.Texts.{call_text, host_text, holder_text, owner_letter, owner_text, dot, server_text, IsHolder, IsCounted, epoch_text, blocking_text}
use Rattle.messages.specs.rule.Messages.{greatest_number}
use Rattle.texts.proofs.Pairs.{AreWords, AreApart, heads, AllLack, apart-joined}
use Rattle.texts.proofs.SingleWords.{number_words, lacks-tested, one-word, decimal-lacks, mode_words}
use Rattle.std.specs.Prelude.{⊤, ◌⊎◌}
use Rattle.messages.specs.declared.message.Blocking.TheVariants.{No, Yes}
use Rattle.texts.specs.rule.Layout.{space}
use Rattle.std.specs.List.{list_all, starts_with}
use Rattle.model.specs.declared.mode.Mode.TheVariants.{Read, Write}
use Rattle.texts.specs.rule.LineFeeds.{line_feed}
use Rattle.texts.specs.rule.Words.{mode_text}
use Rattle.texts.proofs.FieldValues.{apart-mode, apart-number}
use Rattle.texts.proofs.OfKinds.{IsKind, apart-kind, reads-kind}
use Rattle.model.specs.declared.owner.Kind.{Kind}
use Rattle.model.specs.declared.owner.Kind.TheVariants.{OfProcess, OfDescription}
use Rattle.model.specs.declared.owner.Owner.{Owner}
use Rattle.message_text.specs.code.Reports.{AreServerParts, at_sign}

pub holder_is_one_field : (h : Host) → IsHolder h → has_no_space (holder_text h) ≡ true
holder_is_one_field h fits =
    append_is_one_field (decimal h.node ++ codes ".") (decimal h.incarnation)
    (append_is_one_field (decimal h.node) (codes ".") (decimal_is_one_field h.node (omega (arith, fits.node_in.1))) refl)
    (decimal_is_one_field h.incarnation (omega (arith, fits.incarnation_in.1)))

pub epoch_is_one_field : (number : ℕ) → IsRebuilt number → has_no_space (epoch_text number) ≡ true
epoch_is_one_field number fits = decimal_is_one_field (epoch_of number) (omega (arith, fits.within))

pub call_is_one_field : (c : CallId) → IsCall c → has_no_space (call_text c) ≡ true
call_is_one_field c fits =
    append_is_one_field (host_text c.node c.incarnation ++ codes ".") (decimal c.number)
    (append_is_one_field (host_text c.node c.incarnation) (codes ".") (holder_is_one_field (record { node = c.node; incarnation = c.incarnation }) fits.host) refl)
    (decimal_is_one_field c.number (omega (arith, fits.number_in.1)))

pub file_words : AreWords decimal (IsNumber most_files)
file_words = number_words most_files (omega arith)

-- the numbers of calls, commands and messages are one field
pub count_words : AreWords decimal (IsNumber greatest_number)
count_words = number_words greatest_number (omega arith)

-- two texts that lack a byte lack it together
pub lacks-append : (c : ℕ) (x y : List ℕ) → Lacks c x → Lacks c y → Lacks c (x ++ y)
lacks-append c [] y no_x no_y i lt = no_y i lt
lacks-append c (b ∷ x) y no_x no_y zero lt = no_x 0 (omega arith)
lacks-append c (b ∷ x) y no_x no_y (suc i) lt = lacks-append c x y (λ j l. no_x (suc j) (omega (arith, l))) no_y i (omega (arith, lt))

pub holder_words : AreWords holder_text IsHolder
holder_words h fits = lacks-tested space (holder_text h) (holder_is_one_field h fits)

pub call_words : AreWords call_text IsCall
call_words c fits = lacks-tested space (call_text c) (call_is_one_field c fits)

pub blocking_words : AreWords blocking_text (λ _. ⊤)
blocking_words No fits = one-word (codes "now") refl
blocking_words Yes fits = one-word (codes "wait") refl

pub apart-blocking : AreApart blocking_text (λ _. ⊤)
apart-blocking No No _ _ e = refl
apart-blocking No Yes _ _ e = absurd (omega (arith, heads 110 119 _ _ e))
apart-blocking Yes No _ _ e = absurd (omega (arith, heads 119 110 _ _ e))
apart-blocking Yes Yes _ _ e = refl

-- the values of B are made of values of A, and have their texts
pub record Views (A B : Type 0) (f : A → List ℕ) (P : A → Type 0) (g : B → List ℕ) (Q : B → Type 0) : Type 0 where
  pub parts : B → A
  pub fit : (x : B) → Q x → P (parts x)
  pub same : (x : B) → g x ≡ f (parts x)

-- where no parts are read no value is
pub view-none : {A B : Type 0} {f : A → List ℕ} {P : A → Type 0} {g : B → List ℕ} {Q : B → Type 0} (v : Views A B f P g Q) (bytes : List ℕ) → Reads f P bytes None → Reads g Q bytes None
view-none v bytes none x fits e = none (v.parts x) (v.fit x fits) (e ∙ v.same x)

-- where parts are read that fit, their value is
pub view-some : {A B : Type 0} {f : A → List ℕ} {P : A → Type 0} {g : B → List ℕ} {Q : B → Type 0} (v : Views A B f P g Q) (bytes : List ℕ) (x : B) → Q x → Reads f P bytes (Some (v.parts x)) → Reads g Q bytes (Some x)
view-some v bytes x fits some = (fits, some.1 ∙ sym (v.same x))

-- where parts are read that no value has, no value is read
pub view-unfit : {A B : Type 0} {f : A → List ℕ} {P : A → Type 0} {g : B → List ℕ} {Q : B → Type 0} (v : Views A B f P g Q) → AreApart f P → (bytes : List ℕ) (p : A) → Reads f P bytes (Some p) → ((x : B) → Q x → p ≡ v.parts x → ⊥) → Reads g Q bytes None
view-unfit v apart bytes p some unfit x fits e = unfit x fits (apart p (v.parts x) some.0 (v.fit x fits) (sym some.1 ∙ e ∙ v.same x))

-- values are told apart by their texts where their parts are
pub view-apart : {A B : Type 0} {f : A → List ℕ} {P : A → Type 0} {g : B → List ℕ} {Q : B → Type 0} (v : Views A B f P g Q) → AreApart f P → ((x y : B) → Q x → Q y → v.parts x ≡ v.parts y → x ≡ y) → AreApart g Q
view-apart v apart made x y x_fits y_fits e = made x y x_fits y_fits (apart (v.parts x) (v.parts y) (v.fit x x_fits) (v.fit y y_fits) (sym (v.same x) ∙ e ∙ v.same y))

-- no two values that fit share a text, and no text of one has a line feed
pub record AreTexts {A : Type 0} (text : A → List ℕ) (Fits : A → Type 0) : Type 0 where
  pub apart : AreApart text Fits
  pub feedless : AllLack line_feed text Fits

-- each text is one field, besides
pub record AreFields {A : Type 0} (text : A → List ℕ) (Fits : A → Type 0) : Type 0 where
  pub words : AreWords text Fits
  pub texts : AreTexts text Fits

abbrev pub has_no_feed : List ℕ → Bool
has_no_feed bytes = list_all (λ b. not (eqb b line_feed)) bytes

-- the texts of a value, a byte that the first text lacks, and a second value
pub joined : {A B : Type 0} {f : A → List ℕ} {g : B → List ℕ} {P : A → Type 0} {Q : B → Type 0} (c : ℕ) → has_no_feed (c ∷ []) ≡ true → AllLack c f P → AreTexts f P → AreTexts g Q → AreTexts (joined_text c f g) (Both P Q)
joined {f = f} {g = g} {P = P} {Q = Q} c no_feed lack one two = record {
  apart = apart-joined c f g P Q lack one.apart two.apart;
  feedless = λ p fits. lacks-append line_feed (f p.0) (c ∷ g p.1) (one.feedless p.0 fits.0) (lacks-append line_feed (c ∷ []) (g p.1) (lacks-tested line_feed (c ∷ []) no_feed) (two.feedless p.1 fits.1));
}

-- the texts of a field, a space, and a second value
pub both : {A B : Type 0} {f : A → List ℕ} {g : B → List ℕ} {P : A → Type 0} {Q : B → Type 0} → AreFields f P → AreTexts g Q → AreTexts (pair_text f g) (Both P Q)
both one two = joined space refl one.words one.texts two

-- the texts of values that are made of others
pub viewed : {A B : Type 0} {f : A → List ℕ} {P : A → Type 0} {g : B → List ℕ} {Q : B → Type 0} (v : Views A B f P g Q) → ((x y : B) → Q x → Q y → v.parts x ≡ v.parts y → x ≡ y) → AreTexts f P → AreTexts g Q
viewed v made texts = record { apart = view-apart v texts.apart made; feedless = λ x fits. subst (Lacks line_feed) (sym (v.same x)) (texts.feedless (v.parts x) (v.fit x fits)) }

-- the texts of values with one more condition
pub where_so : {A : Type 0} {f : A → List ℕ} {P : A → Type 0} (More : Type 0) → AreTexts f P → AreTexts f (λ x. More × P x)
where_so More texts = record { apart = λ x y x_fits y_fits. texts.apart x y x_fits.1 y_fits.1; feedless = λ x fits. texts.feedless x fits.1 }

pub number : (n : ℕ) → n < 2 ^ 64 → Lacks line_feed (decimal n)
number n small = decimal-lacks line_feed (λ d low high e. omega (arith, low, e)) n small

-- numbers from 1 up to a greatest one
pub up_to : (most : ℕ) → most < 2 ^ 64 → AreFields decimal (IsNumber most)
up_to most small = record { words = number_words most small; texts = record { apart = apart-number most small; feedless = λ n fits. number n (omega (arith, fits.1, small)) } }

modes : AllLack line_feed mode_text (λ _. ⊤)
modes Read fits = lacks-tested line_feed (codes "read") refl
modes Write fits = lacks-tested line_feed (codes "write") refl

pub mode : AreFields mode_text (λ _. ⊤)
mode = record { words = mode_words; texts = record { apart = apart-mode; feedless = modes } }

pub record Variant {A : Type 0} (text : A → List ℕ) (Fits : A → Type 0) : Type 1 where
  pub Fields : Type 0
  pub front : List ℕ
  pub rest : Fields → List ℕ
  pub Fit : Fields → Type 0
  pub make : Fields → A
  pub kind : IsKind text Fits front rest Fit make
  pub texts : AreTexts rest Fit
  pub feedless : has_no_feed front ≡ true

-- a variant with its front, its fields, and the values that are made of them
abbrev pub variant : {A F : Type 0} {text : A → List ℕ} {Fits : A → Type 0} {rest : F → List ℕ} {Fit : F → Type 0} (front : List ℕ) → has_no_feed front ≡ true → AreTexts rest Fit → (make : F → A)
    → ((f : F) → Fit f → Fits (make f)) → ((f : F) → text (make f) ≡ front ++ rest f) → ((x : A) → Fits x → ((f : F) × Fit f × (x ≡ make f)) ⊎ (starts_with eqb (text x) front ≡ false)) → Variant text Fits
variant {F = F} {rest = rest} {Fit = Fit} front feedless texts make fits written told = record {
  Fields = F;
  front = front;
  rest = rest;
  Fit = Fit;
  make = make;
  kind = record { fits = fits; written = written; told = told };
  texts = texts;
  feedless = feedless;
}

other : (b c : Bool) → b ≡ false → (if b then true else c) ≡ true → c ≡ true
other b c is e = sym (ap (λ (d : Bool). if d then true else c) is) ∙ e

module _ {A : Type 0} {text : A → List ℕ} {Fits : A → Type 0} where
  -- a text behind a variant's front that is not one of its fields is the text of no value
  pub none-of : (v : Variant text Fits) (bytes : List ℕ) → Reads v.rest v.Fit bytes None → Reads text Fits (v.front ++ bytes) None
  none-of v bytes none = reads-kind v.kind bytes None none

  -- the text begins with the front of one of the variants
  abbrev pub is_of : List (Variant text Fits) → List ℕ → Bool
  is_of [] bytes = false
  is_of (v ∷ vs) bytes = if starts_with eqb bytes v.front then true else is_of vs bytes

  apart-of : (vs : List (Variant text Fits)) (x y : A) → Fits x → Fits y → is_of vs (text x) ≡ true → text x ≡ text y → x ≡ y
  apart-of [] x y x_fits y_fits of e = absurd cc
  apart-of (v ∷ vs) x y x_fits y_fits of e =
      elim (v.kind.told x x_fits) [
        | inl (f, fit, made) ↦ made ∙ apart-kind v.kind v.texts.apart f fit y y_fits (ap text (sym made) ∙ e)
        | inr not_it ↦ apart-of vs x y x_fits y_fits (other _ _ not_it of) e
      ]

  feedless-of : (vs : List (Variant text Fits)) (x : A) → Fits x → is_of vs (text x) ≡ true → Lacks line_feed (text x)
  feedless-of [] x fits of = absurd cc
  feedless-of (v ∷ vs) x fits of =
      elim (v.kind.told x fits) [
        | inl (f, fit, made) ↦ subst (Lacks line_feed) (sym (ap text made ∙ v.kind.written f)) (lacks-append line_feed v.front (v.rest f) (lacks-tested line_feed v.front v.feedless) (v.texts.feedless f fit))
        | inr not_it ↦ feedless-of vs x fits (other _ _ not_it of)
      ]

  -- the texts of values of these variants, from the texts of their fields
  pub of_variants : (vs : List (Variant text Fits)) → ((x : A) → is_of vs (text x) ≡ true) → AreTexts text Fits
  of_variants vs of = record { apart = λ x y x_fits y_fits. apart-of vs x y x_fits y_fits (of x); feedless = λ x fits. feedless-of vs x fits (of x) }

-- numbers have no dot and no `@`
pub dot-lacks : (most : ℕ) → most < 2 ^ 64 → AllLack dot decimal (IsNumber most)
dot-lacks most small n fits = decimal-lacks dot (λ d low high e. omega (arith, low, e)) n (omega (arith, fits.1, small))

pub at_sign-lacks : (most : ℕ) → most < 2 ^ 64 → AllLack at_sign decimal (IsNumber most)
at_sign-lacks most small n fits = decimal-lacks at_sign (λ d low high e. omega (arith, high, e)) n (omega (arith, fits.1, small))

-- the texts of a number, a dot, and a second part
dotted : {A : Type 0} {f : A → List ℕ} {P : A → Type 0} (most : ℕ) → most < 2 ^ 64 → AreTexts f P → AreTexts (joined_text dot decimal f) (Both (IsNumber most) P)
dotted most small rest = joined dot refl (dot-lacks most small) (up_to most small).texts rest

-- a node in an incarnation is made of two numbers
abbrev pub hosts : Views (ℕ × ℕ) Host (joined_text dot decimal decimal) (Both (IsNumber most_nodes) (IsNumber 65535)) holder_text IsHolder
hosts = record {
  parts = λ h. (h.node, h.incarnation);
  fit = λ h fits. (fits.node_in, fits.incarnation_in);
  same = λ h. append_assoc (decimal h.node) (codes ".") (decimal h.incarnation);
}

abbrev host-made : ℕ × ℕ → Host
host-made p = record { node = p.0; incarnation = p.1 }

pub holder : AreFields holder_text IsHolder
holder = record { words = holder_words; texts = viewed hosts (λ x y _ _ e. ap host-made e) (dotted most_nodes (omega arith) (up_to 65535 (omega arith)).texts) }

-- a call is made of three numbers
abbrev pub calls : Views (ℕ × (ℕ × ℕ)) CallId (joined_text dot decimal (joined_text dot decimal decimal)) (Both (IsNumber most_nodes) (Both (IsNumber 65535) IsCounted)) call_text IsCall
calls = record {
  parts = λ c. (c.node, (c.incarnation, c.number));
  fit = λ c fits. (fits.host.node_in, (fits.host.incarnation_in, fits.number_in));
  same = λ c. append_assoc (host_text c.node c.incarnation) (codes ".") (decimal c.number)
      ∙ append_assoc (decimal c.node ++ codes ".") (decimal c.incarnation) (codes "." ++ decimal c.number)
      ∙ append_assoc (decimal c.node) (codes ".") (decimal c.incarnation ++ (codes "." ++ decimal c.number));
}

abbrev call-made : ℕ × (ℕ × ℕ) → CallId
call-made p = record { node = p.0; incarnation = p.1.0; number = p.1.1 }

pub call : AreFields call_text IsCall
call = record { words = call_words; texts = viewed calls (λ x y _ _ e. ap call-made e) (dotted most_nodes (omega arith) (dotted 65535 (omega arith) (up_to 4294967295 (omega arith)).texts)) }

pub server : AreTexts server_text AreServerParts
server = dotted 256 (omega arith) (up_to 65535 (omega arith)).texts

-- the number of an owner and its node
abbrev pub numbered_text : ℕ × Host → List ℕ
numbered_text = joined_text at_sign decimal holder_text

abbrev pub AreNumbered : ℕ → ℕ × Host → Type 0
AreNumbered most = Both (IsNumber most) IsHolder

pub numbered_name : (most : ℕ) → most < 2 ^ 64 → AreTexts numbered_text (AreNumbered most)
numbered_name most small = joined at_sign refl (at_sign-lacks most small) (up_to most small).texts holder.texts

pub owner-written : (o : Owner) → owner_text o ≡ owner_letter o.kind ++ numbered_text (o.number, record { node = o.node; incarnation = o.incarnation })
owner-written o = append_assoc (owner_letter o.kind ++ decimal o.number) (codes "@") (host_text o.node o.incarnation)
    ∙ append_assoc (owner_letter o.kind) (decimal o.number) (codes "@" ++ host_text o.node o.incarnation)

abbrev pub owner_parts : Owner → ℕ × Host
owner_parts o = (o.number, record { node = o.node; incarnation = o.incarnation })

abbrev pub owner-made : Kind → ℕ × Host → Owner
owner-made k p = record { node = p.1.node; incarnation = p.1.incarnation; kind = k; number = p.0 }

-- an owner is of this kind, or its name begins with another letter
abbrev pub IsTold : Kind → Owner → Type 0
IsTold k o = ((p : ℕ × Host) × AreNumbered (most_of k) p × (o ≡ owner-made k p)) ⊎ (starts_with eqb (owner_text o) (owner_letter k) ≡ false)

told-same : (k : Kind) (o : Owner) → o.kind ≡ k → IsOwner o → IsTold k o
told-same k o e fits = inl (owner_parts o, (subst (λ (j : Kind). IsNumber (most_of j) o.number) e fits.number_in, fits.host), ap (λ (j : Kind). owner-made j (owner_parts o)) e)

begins-as : (k j : Kind) (o : Owner) → o.kind ≡ j → starts_with eqb (owner_text o) (owner_letter k) ≡ starts_with eqb (owner_letter j ++ numbered_text (owner_parts o)) (owner_letter k)
begins-as k j o e = ap (λ (bytes : List ℕ). starts_with eqb bytes (owner_letter k)) (owner-written o ∙ ap (λ (i : Kind). owner_letter i ++ numbered_text (owner_parts o)) e)

told-by : (k j : Kind) (o : Owner) → o.kind ≡ j → IsOwner o → IsTold k o
told-by OfProcess OfProcess o e fits = told-same OfProcess o e fits
told-by OfProcess OfDescription o e fits = inr (begins-as OfProcess OfDescription o e)
told-by OfDescription OfProcess o e fits = inr (begins-as OfDescription OfProcess o e)
told-by OfDescription OfDescription o e fits = told-same OfDescription o e fits

pub owner-told : (k : Kind) (o : Owner) → IsOwner o → IsTold k o
owner-told k o fits = told-by k o.kind o refl fits

abbrev OwnerKind : Type 1
OwnerKind = Variant owner_text IsOwner

abbrev pub processes : OwnerKind
processes = variant (codes "p") refl (numbered_name most_processes (omega arith)) (owner-made OfProcess) (λ p fit. record { host = fit.1; number_in = fit.0 }) (λ p. owner-written (owner-made OfProcess p)) (owner-told OfProcess)

abbrev pub descriptions : OwnerKind
descriptions = variant (codes "d") refl (numbered_name most_descriptions (omega arith)) (owner-made OfDescription) (λ p fit. record { host = fit.1; number_in = fit.0 }) (λ p. owner-written (owner-made OfDescription p)) (owner-told OfDescription)

abbrev kinds : List OwnerKind
kinds = processes ∷ descriptions ∷ []

begins-one : (k : Kind) (bytes : List ℕ) → is_of kinds (owner_letter k ++ bytes) ≡ true
begins-one OfProcess bytes = refl
begins-one OfDescription bytes = refl

pub owner : AreTexts owner_text IsOwner
owner = of_variants kinds (λ o. ap (is_of kinds) (owner-written o) ∙ begins-one o.kind (numbered_text (owner_parts o)))

absent : (word : List ℕ) → ((rest : List ℕ) → word ≢ codes "p" ++ rest) → ((rest : List ℕ) → word ≢ codes "d" ++ rest) → (k : Kind) (rest : List ℕ) → word ≢ owner_letter k ++ rest
absent word no_p no_d OfProcess = no_p
absent word no_p no_d OfDescription = no_d

-- a word that begins with neither letter names no owner
pub no_owner : (word : List ℕ) → ((rest : List ℕ) → word ≢ codes "p" ++ rest) → ((rest : List ℕ) → word ≢ codes "d" ++ rest) → Reads owner_text IsOwner word None
no_owner word no_p no_d o fits e = absent word no_p no_d o.kind (numbered_text (o.number, record { node = o.node; incarnation = o.incarnation })) (e ∙ owner-written o)
