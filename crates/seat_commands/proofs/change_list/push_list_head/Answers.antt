use Rattle.std.proofs.Common.{◌≡◌, ◌++◌, ◌∙◌, ℕ, List, OnOk, ap, append_assoc, codes, string_bytes, subst}
use Rattle.journal_text.specs.rule.Journals.{end_text}
use Rattle.seat_commands.specs.rule.Changes.{size_line}
use Rattle.seat_commands.proofs.change_list.push_list_head.Goals as goal

pub returns : goal.returns
returns c =
    let mid = string_bytes c.push_size.new.out in
    let size = size_line c.nodes.result c.files.result in
    let end = end_text 0 ++ codes "\n" in
    let all : (string_bytes c.push_size.new.out ++ end_text 0) ++ codes "\n" ≡ string_bytes c.args.out.now ++ (size_line c.args.shape.now.nodes c.args.shape.now.files ++ end) =
    rw (← c.nodes.ensures.value, ← c.files.ensures.value)
    (append_assoc mid (end_text 0) (codes "\n") ∙ ap (λ (l : List ℕ). l ++ end) c.in_ok-push_size.ensures ∙ append_assoc (string_bytes c.args.out.now) size end) in
    subst (λ (bytes : List ℕ). OnOk c.push_end.result (string_bytes c.push_end.new.out ≡ bytes)) all c.push_end.ensures
