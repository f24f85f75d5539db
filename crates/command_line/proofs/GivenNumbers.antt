-- Numbers that may be left out.
use Rattle.std.specs.Prelude.{option_and_then, slice_get}
use Rattle.std.specs.List.{find}
use Rattle.std.specs.Str.{bytes_eq}
use Rattle.std.proofs.Common.{ℕ, List, Option, Some, None, option_map, refl, sym, subst, ap, ◌≡◌}
use Rattle.clap.specs.Walk.{row_text}
use Rattle.clap.specs.Words.{Row, Text, first_of, one_of}
use Rattle.clap.specs.Values.{read_as}
use Rattle.command_line.specs.rule.Words.{IsNumber, MayBeNumber}

-- what is read of the first value of an argument is there where the value is
abbrev first_value_of : Option Row → Option Text
first_value_of found = option_and_then (λ (r : Row). slice_get r.values 0) found

none_read : (found : Option Row) → first_value_of found ≡ None → option_and_then row_text found ≡ None
none_read None none = refl
none_read (Some r) none = ap (option_map (read_as r.reading)) none

one_read : (found : Option Row) (text : Text) → first_value_of found ≡ Some text → option_and_then row_text found ≡ None → ⊥
one_read None text some none = cc
one_read (Some r) text some none =
    let read = ap (option_map (read_as r.reading)) some in
    cc

-- so an argument that is left out has no number
pub left_out : (least greatest : ℕ) (id : Text) (rows : List Row) → first_of id rows ≡ None → MayBeNumber least greatest (one_of id rows) None
left_out least greatest id rows none =
    subst (λ (text : Option Text). MayBeNumber least greatest text None) (sym (none_read (find (λ (r : Row). bytes_eq r.id id) rows) none)) tt

-- and one with a value has the number that this writes, or none
pub one_given : (least greatest : ℕ) (value : Option Text) (number : ℕ) → ((text : Text) × (value ≡ Some text) × IsNumber least greatest text number) → MayBeNumber least greatest value (Some number)
one_given least greatest value number is = subst (λ (text : Option Text). MayBeNumber least greatest text (Some number)) (sym is.1) is.2

refused : (least greatest : ℕ) (value : Option Text) → (value ≡ None → ⊥) → ((text : Text) (number : ℕ) → value ≡ Some text → IsNumber least greatest text number → ⊥)
    → (number : Option ℕ) → MayBeNumber least greatest value number → ⊥
refused least greatest None some none number may = some refl
refused least greatest (Some text) some none None may = may
refused least greatest (Some text) some none (Some number) may = none text number refl may

pub none_given : (least greatest : ℕ) (id : Text) (rows : List Row) (text : Text) → first_of id rows ≡ Some text
    → ((text : Text) (number : ℕ) → one_of id rows ≡ Some text → IsNumber least greatest text number → ⊥) → (number : Option ℕ) → MayBeNumber least greatest (one_of id rows) number → ⊥
none_given least greatest id rows text there none = refused least greatest (one_of id rows) (one_read (find (λ (r : Row). bytes_eq r.id id) rows) text there) none
