-- Lists that are read back.
use Rattle.std.proofs.Common.{◌≡◌, ℕ, ◌+◌, Bor, List, [], ◌++◌, length, take, drop, get_or-drop, length-drop, take-append-drop, Option, Some, None, true, false, IfSome, MatchOption, nat_eq, eqb, arith, sym, ap, ◌∙◌, ◌≤◌, inl, inr, length-append, ◌∷◌, refl, subst, append_assoc, append-nil}
use Rattle.std.specs.Cmp.Lexicographic.{bytes_decides, pointwise}
use Rattle.memchr.specs.Find.{NoneAfter, Nowhere, Passes, is_byte}
use Rattle.seat_commands.specs.rule.ListFiles.{IsWholeLines, Follows, HasBlocks, IsNext, IsTailOf, Leads, MayFollow}
use Rattle.seat_commands.specs.declared.change_list.NotedChange.{NotedChange}
use Rattle.seat_commands.specs.declared.read_back.Next.{Next}
use Rattle.seat_commands.specs.declared.read_back.Next.TheVariants.{Block, Torn, Bad}
use Rattle.seat_commands.specs.rule.Changes.{ListState, noted_text}
use Rattle.seat_commands.specs.rule.Clocks.{greatest_moment, interval_text}

-- what `strip_prefix` says
pub stripped : (s p : List ℕ) (r : Option (Bor (List ℕ)))
    → MatchOption r (pointwise nat_eq (take (length p) s) p ≡ false) (λ x. (pointwise nat_eq (take (length p) s) p ≡ true) × (x.now ≡ drop (length p) s) × (length x.now + length p ≡ length s))
    → IfSome r (λ x. s ≡ p ++ x.now)
stripped s p None m = tt
stripped s p (Some x) m =
    sym (take-append-drop (length p) s) ∙ ap (λ (l : List ℕ). l ++ drop (length p) s) ((bytes_decides (take (length p) s) p).0 m.0) ∙ ap (λ (l : List ℕ). p ++ l) (sym m.1)

-- the bytes up to their last line feed
pub lines_to : (bytes lines : List ℕ) (at : ℕ) → NoneAfter (Passes (is_byte 10) bytes) 0 (length bytes) at → lines ≡ take (at + 1) bytes → IsWholeLines bytes lines
lines_to bytes lines at last is = record {
  piece = drop (at + 1) bytes;
  bytes_are = sym (take-append-drop (at + 1) bytes) ∙ ap (λ (l : List ℕ). l ++ drop (at + 1) bytes) (sym is);
  no_line = λ i lt feed. last.after (at + 1 + i) (omega arith) (let n = length-drop (at + 1) bytes in omega (arith, lt, n)) (ap (λ x. eqb x 10) (sym (get_or-drop (at + 1) bytes i 0) ∙ feed));
}

-- bytes without a line feed
pub no_lines : (bytes lines : List ℕ) → Nowhere (Passes (is_byte 10) bytes) 0 (length bytes) → lines ≡ [] → IsWholeLines bytes lines
no_lines bytes lines none is = record { piece = bytes; bytes_are = ap (λ (l : List ℕ). l ++ bytes) (sym is); no_line = λ i lt feed. none i (omega arith) lt (ap (λ x. eqb x 10) feed) }

-- no change leads anywhere
pub leads_none : (a : ListState) (last : ℕ) → Leads a last [] a last []
leads_none a last = (refl, refl, refl)

leads_one : (a z : ListState) (last now : ℕ) (n : NotedChange) → Follows a last n z now → Leads a last (n ∷ []) z now (noted_text n (length a.changes + 1))
leads_one a z last now n next = (z, now, [], next, (refl, refl, refl), sym (append-nil (noted_text n (length a.changes + 1))))

-- a change more
pub leads_on : (a b z : ListState) (last between now : ℕ) (ns : List NotedChange) (n : NotedChange) (text : List ℕ) → Leads a last ns b between text → Follows b between n z now
    → Leads a last (ns ++ n ∷ []) z now (text ++ noted_text n (length b.changes + 1))
leads_on a b z last between now [] n text before next =
    let at_once = subst (λ (x : ListState). Follows x last n z now) before.0 (subst (λ (k : ℕ). Follows b k n z now) before.1 next) in
    rw (before.2, before.0) (leads_one a z last now n at_once)
leads_on a b z last between now (m ∷ ns) n text before next = (
  before.0,
  before.1,
  before.2 ++ noted_text n (length b.changes + 1),
  before.3,
  leads_on before.0 b z before.1 between now ns n before.2 before.4 next,
  ap (λ (l : List ℕ). l ++ noted_text n (length b.changes + 1)) before.5 ∙ append_assoc (noted_text m (length a.changes + 1)) before.2 (noted_text n (length b.changes + 1)),
)

-- a rest that has no whole block, where one would begin with these readings of a clock
pub tail_of_interval : (a : ListState) (last : ℕ) (bytes block : List ℕ) (i : Option (ℕ × ℕ)) (r : Next) → block ≡ interval_text i → IsTailOf bytes block r → IsNext a last bytes a last r
tail_of_interval a last bytes block i Torn is tail = (refl, refl, record { block = block; block_is = inr (i, is); torn = tail })
tail_of_interval a last bytes block i (Bad good) is tail = tt
tail_of_interval a last bytes block i (Block left) is tail = absurd tail

-- or would be this one
pub tail_of_noted : (a : ListState) (last : ℕ) (bytes block : List ℕ) (n : NotedChange) (r : Next) → block ≡ noted_text n (length a.changes + 1) → IsTailOf bytes block r → IsNext a last bytes a last r
tail_of_noted a last bytes block n Torn is tail = (refl, refl, record { block = block; block_is = inl (n, is); torn = tail })
tail_of_noted a last bytes block n (Bad good) is tail = tt
tail_of_noted a last bytes block n (Block left) is tail = absurd tail

-- a block that may follow
pub block_next : (a z : ListState) (last now : ℕ) (bytes block : List ℕ) (n : NotedChange) (left : Bor (List ℕ)) → Follows a last n z now → bytes ≡ block ++ left.now → block ≡ noted_text n (length a.changes + 1)
    → IsNext a last bytes z now (Block left)
block_next a z last now bytes block n left follows bytes_are is = (n, follows, bytes_are ∙ ap (λ (l : List ℕ). l ++ left.now) is)

-- a block more was read
pub blocks_on : (a b z : ListState) (last between now : ℕ) (all done rest : List ℕ) (left : Bor (List ℕ)) (ns : List NotedChange) → all ≡ done ++ rest → Leads a last ns b between done → IsNext b between rest z now (Block left)
    → (changes : List NotedChange) × (read : List ℕ) × (all ≡ read ++ left.now) × Leads a last changes z now read
blocks_on a b z last between now all done rest left ns all_is leads next = (
  ns ++ next.0 ∷ [],
  done ++ noted_text next.0 (length b.changes + 1),
  all_is ∙ ap (λ (l : List ℕ). done ++ l) next.2 ∙ sym (append_assoc done (noted_text next.0 (length b.changes + 1)) left.now),
  leads_on a b z last between now ns next.0 done leads next.1,
)

-- no block more is whole
pub blocks_end : (a b z : ListState) (last between now : ℕ) (all done rest : List ℕ) (ns : List NotedChange) → all ≡ done ++ rest → Leads a last ns b between done → IsNext b between rest z now Torn → HasBlocks a last all z now (length rest)
blocks_end a b z last between now all done rest ns all_is leads torn =
    rw (torn.0, torn.1) (record { changes = ns; blocks = done; tail = rest; bytes_are = all_is; leads = leads; ends = torn.2; count = refl })

-- what is torn is a part of all
pub torn_fits : (a z : ListState) (last now torn : ℕ) (all head rest : List ℕ) → all ≡ head ++ rest → HasBlocks a last rest z now torn → torn ≤ length all
torn_fits a z last now torn all head rest all_is has =
    let n = length-append head rest in
    let m = length-append has.blocks has.tail in
    let k : length all ≡ length (head ++ rest) = ap length all_is in
    let j : length rest ≡ length (has.blocks ++ has.tail) = ap length has.bytes_are in
    omega (arith, n, m, k, j, has.count)

followed : (i : Option (ℕ × ℕ)) (last now : ℕ) → MayFollow last i now → last ≤ greatest_moment → now ≤ greatest_moment
followed None last now read within = subst (λ (k : ℕ). k ≤ greatest_moment) (sym read) within
followed (Some i) last now read within = subst (λ (k : ℕ). k ≤ greatest_moment) (sym read.1) read.0.within

led : (a z : ListState) (last now : ℕ) (ns : List NotedChange) (text : List ℕ) → Leads a last ns z now text → last ≤ greatest_moment → now ≤ greatest_moment
led a z last now [] text leads within = subst (λ (k : ℕ). k ≤ greatest_moment) (sym leads.1) within
led a z last now (n ∷ ns) text leads within = led leads.0 z leads.1 now ns leads.2 leads.4 (followed n.interval last leads.1 leads.3.read within)

-- no reading is past the greatest moment
pub last_within : (a z : ListState) (last now torn : ℕ) (bytes : List ℕ) → HasBlocks a last bytes z now torn → last ≤ greatest_moment → now ≤ greatest_moment
last_within a z last now torn bytes has within = led a z last now has.changes has.blocks has.leads within
