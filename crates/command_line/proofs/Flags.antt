-- The texts of flags.
use Rattle.std.proofs.Common.{◌≡◌, Bool, true, false, Option, Some, None, refl, ap, sym, ◌∙◌}
use Rattle.std.specs.Str.Parse.{ParsesBool}
use Rattle.clap.specs.Words.{ReadsOne, Text}
use Rattle.command_line.specs.rule.Words.{IsFlagOf, flag_text}

-- the text of a flag is read as a flag
no_flag_read : (E : Type 0) (text : Text) (flag : Bool) (r : Option Bool) → ReadsOne {E = E} ParsesBool text r → r ≡ None → text ≡ flag_text flag → ⊥
no_flag_read E text flag (Some read) reads none is = cc
no_flag_read E text true None reads none is = reads.1.0 is
no_flag_read E text false None reads none is = reads.1.1 is

found : (E : Type 0) (text : Text) (flag : Bool) (r : Option Bool) → ReadsOne {E = E} ParsesBool text r → r ≡ Some flag → text ≡ flag_text flag
found E text flag None reads some = absurd (cc)
found E text true (Some true) reads some = reads
found E text false (Some false) reads some = reads
found E text true (Some false) reads some = absurd (cc)
found E text false (Some true) reads some = absurd (cc)

-- one that is read as a flag is its text
flag_read : (E : Type 0) (value : Option Text) (flag : Bool) (r : Option Bool) → (value ≡ None → r ≡ None) → ((t : Text) → value ≡ Some t → ReadsOne {E = E} ParsesBool t r) → r ≡ Some flag
    → value ≡ Some (flag_text flag)
flag_read E None flag r none some is =
    let nothing = none refl in
    absurd (cc)
flag_read E (Some text) flag r none some is = ap (λ (t : Text). Some t) (found E text flag r (some text refl) is)

-- so what is read of an argument is its flag
pub flag_of_value : (E : Type 0) (value row : Option Text) (r : Option Bool) → value ≡ row → (value ≡ None → r ≡ None) → ((t : Text) → value ≡ Some t → ReadsOne {E = E} ParsesBool t r) → IsFlagOf row r
flag_of_value E value row None same none some = λ flag is. no_flag_read E (flag_text flag) flag None (some (flag_text flag) (same ∙ is)) refl refl
flag_of_value E value row (Some flag) same none some = sym same ∙ flag_read E value flag (Some flag) none some refl
