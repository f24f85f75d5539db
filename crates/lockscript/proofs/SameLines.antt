-- Two different lists of lines have different texts.
use Rattle.std.proofs.Common.{◌≡◌, ℕ, List, [], ◌∷◌, map, refl, ap, ◌∙◌}
use Rattle.std.specs.List.{All}
use Rattle.std.proofs.lemmas.List.Elements.{All-head, All-tail}
use Rattle.lockscript.specs.declared.script_line.ScriptCommand.{ScriptCommand}
use Rattle.lockscript.specs.rule.Scripts.{IsLine, LineFields, line_text}
use Rattle.lockscript.proofs.CommandKinds.{command}

line-same : (l m : LineFields) → IsLine l → IsLine m → line_text l ≡ line_text m → l ≡ m
line-same l m l_in m_in e =
    let number = ap (λ (x : ℕ × List ℕ). x.0) e in
    let asked = command.apart l.command m.command l_in.within m_in.within (ap (λ (x : ℕ × List ℕ). x.1) e) in
    let with_number : ℕ → LineFields = λ n. record { number = n; command = l.command } in
    let with_command : ScriptCommand → LineFields = λ c. record { number = m.number; command = c } in
    ap with_number number ∙ ap with_command asked

pub first-same : (k m : ℕ × List ℕ) (ks ms : List (ℕ × List ℕ)) → k ∷ ks ≡ m ∷ ms → k ≡ m
first-same k m ks ms e = cc

pub rest-same : (k m : ℕ × List ℕ) (ks ms : List (ℕ × List ℕ)) → k ∷ ks ≡ m ∷ ms → ks ≡ ms
rest-same k m ks ms e = cc

pub lines-same : (ls ms : List LineFields) → All IsLine ls → All IsLine ms → map line_text ls ≡ map line_text ms → ls ≡ ms
lines-same [] [] ls_in ms_in e = refl
lines-same [] (m ∷ ms) ls_in ms_in e = absurd (cc)
lines-same (l ∷ ls) [] ls_in ms_in e = absurd (cc)
lines-same (l ∷ ls) (m ∷ ms) ls_in ms_in e =
    let one = line-same l m (All-head IsLine l ls ls_in) (All-head IsLine m ms ms_in) (first-same (line_text l) (line_text m) (map line_text ls) (map line_text ms) e) in
    let rest = lines-same ls ms (All-tail IsLine l ls ls_in) (All-tail IsLine m ms ms_in) (rest-same (line_text l) (line_text m) (map line_text ls) (map line_text ms) e) in
    ap (λ (x : LineFields). x ∷ ls) one ∙ ap (λ (xs : List LineFields). m ∷ xs) rest
