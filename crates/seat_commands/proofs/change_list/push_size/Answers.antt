use Rattle.std.proofs.Common.{◌≡◌, ◌++◌, ◌∙◌, ℕ, List, OnOk, ap, append_assoc, codes, string_bytes, subst}
use Rattle.seat_commands.specs.rule.Changes.{counts_line}
use Rattle.seat_commands.proofs.change_list.push_size.Goals as goal

pub returns : goal.returns
returns c =
    let counts = counts_line c.args.nodes c.args.files in
    let all : string_bytes c.push_str.new.self ++ counts ≡ string_bytes c.args.out.now ++ (codes "members 2 nodes " ++ counts) =
    ap (λ (l : List ℕ). l ++ counts) c.in_ok-push_str.ensures.bytes ∙ append_assoc (string_bytes c.args.out.now) (codes "members 2 nodes ") counts in
    subst (λ (bytes : List ℕ). OnOk c.push_counts.result (string_bytes c.push_counts.new.out ≡ bytes)) all c.push_counts.ensures
