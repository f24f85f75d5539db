-- What the table of a command says of its parts.
use Rattle.std.proofs.Common.{ap, refl, sym, true, false, is_some, map, not, option_map, Bool, Bor, List, Option, None, Some, ◌≡◌, ◌∙◌}
use Rattle.clap.specs.Walk.{is_empty, is_simple_arg}
use Rattle.clap.specs.Words.{all_of, app_of, first_of, first_value, matched_of, raw_values, rows_of, rule_of, App, Rule, Text}
use Rattle.clap.specs.declared.parser.matches.Found.{Found}
use Rattle.clap.specs.declared.builder.arg.Arg.{Arg}
use Rattle.clap.specs.declared.builder.command.Command.{Command}
use Rattle.clap.specs.declared.builder.command.Command.TheViews.{out-Command}
use Rattle.clap.proofs.WalkLemmas.{both, first_value-rows, raw_values-rows}

is_not : (b : Bool) → not b ≡ true → b ≡ false
is_not true is = cc
is_not false is = refl

pub no_globals : (command : Command) (app : App) → app_of command ≡ app → app.top.is_plain ≡ true → (out-Command command).has_globals ≡ false
no_globals command app is plain =
    let all = ap (λ (a : App). a.top.is_plain) is ∙ plain in
    let after_groups = (both _ _ all).1 in
    is_not _ (both _ _ (both _ _ after_groups).1).0

pub no_global : (arg : Arg) (rule : Rule) → rule_of arg ≡ rule → rule.is_simple ≡ true → arg.global ≡ false
no_global arg rule is simple =
    let all : is_simple_arg arg ≡ true = ap (λ (r : Rule). r.is_simple) is ∙ simple in
    let after_overrides = (both (is_empty arg.overrides.items) _ all).1 in
    let after_defaults = (both (is_empty arg.default_vals_ifs.items) _ after_overrides).1 in
    let after_groups = (both (is_empty arg.groups.items) _ after_defaults).1 in
    let after_delimiter = (both (not (is_some arg.val_delim)) _ after_groups).1 in
    let after_terminator = (both (not (is_some arg.terminator)) _ after_delimiter).1 in
    let after_hyphens = (both (not arg.allow_hyphen_values) _ after_terminator).1 in
    let after_negatives = (both (not arg.allow_negative_numbers) _ after_hyphens).1 in
    let after_equals = (both (not arg.require_equals) _ after_negatives).1 in
    is_not _ (both (not arg.last) _ after_equals).1

-- the value that a getter gives
pub value_is : (found : Found) (id : Text) (result : Option (Bor Text)) (text : Bor Text) → option_map (λ s. s.now) result ≡ first_value found id → result ≡ Some text
    → first_of id (rows_of found) ≡ Some text.now
value_is found id result text ensured is = sym (first_value-rows found id) ∙ (sym ensured ∙ ap (option_map (λ (s : Bor Text). s.now)) is)

pub no_value : (found : Found) (id : Text) (result : Option (Bor Text)) → option_map (λ s. s.now) result ≡ first_value found id → result ≡ None → first_of id (rows_of found) ≡ None
no_value found id result ensured is = sym (first_value-rows found id) ∙ (sym ensured ∙ ap (option_map (λ (s : Bor Text). s.now)) is)

pub same_value : (found : Found) (id : Text) (result : Option (Bor Text)) → option_map (λ s. s.now) result ≡ first_value found id → first_of id (rows_of found) ≡ option_map (λ s. s.now) result
same_value found id result ensured = sym (first_value-rows found id) ∙ sym ensured

-- the values that a getter gives
pub texts_are : (found : Found) (id : Text) (result : Option (Bor (List (Bor Text)))) (texts : Bor (List (Bor Text)))
    → option_map (λ s. map (λ v. v.now) s.now) result ≡ option_map raw_values (matched_of found id) → result ≡ Some texts → all_of id (rows_of found) ≡ Some (map (λ v. v.now) texts.now)
texts_are found id result texts ensured is = sym (raw_values-rows found id) ∙ (sym ensured ∙ ap (option_map (λ (s : Bor (List (Bor Text))). map (λ (v : Bor Text). v.now) s.now)) is)

pub no_texts : (found : Found) (id : Text) (result : Option (Bor (List (Bor Text))))
    → option_map (λ s. map (λ v. v.now) s.now) result ≡ option_map raw_values (matched_of found id) → result ≡ None → all_of id (rows_of found) ≡ None
no_texts found id result ensured is = sym (raw_values-rows found id) ∙ (sym ensured ∙ ap (option_map (λ (s : Bor (List (Bor Text))). map (λ (v : Bor Text). v.now) s.now)) is)
