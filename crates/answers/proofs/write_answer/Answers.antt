-- An accepted ask's line: five numbers, each one that a line may have, and the ids after them.
use Rattle.std.proofs.Common.{◌≡◌, true, ℕ, ℤ, List, [], ◌∷◌, map, ◌+◌, ◌*◌, ◌≤◌, pos, length, refl, sym, ap, subst, arith, lit<, w32}
use Rattle.std.proofs.lemmas.List.{length-map}
use Rattle.ints.proofs.Machine.{got}
use Rattle.ledger.specs.declared.Answer.{Answer}
use Rattle.ledger.specs.declared.Answer.TheVariants.{Listed}
use Rattle.fields.specs.Numbers.{are_writable}
use Rattle.fields.proofs.NumbersLaws.{small_at, length_fields, ids_writable}
use Rattle.lines.specs.Lines.{line_length, line_of, Written}
use Rattle.lines.proofs.LinesLaws.{line_more}
use Rattle.answers.specs.Answers.{AnswerRoom}
use Rattle.answers.proofs.write_answer.Goals as goal

-- what is asked of an accepted ask's answer
record ListedRoom (numbers ids out : List ℕ) : Type 0 where
  room : line_length (5 + length ids) ≤ length out
  writable : are_writable (map pos numbers) ≡ true

abbrev numbers : ℕ → ℕ → ℕ → ℕ → List ℕ
numbers listed cells useful rounds = 0 ∷ listed ∷ cells ∷ useful ∷ rounds ∷ []

listed_room :
    {answer : Answer} {listed cells useful rounds : ℕ} {ids out : List ℕ}
    → answer ≡ Listed listed cells useful rounds
    → AnswerRoom answer ids out
    → ListedRoom (numbers listed cells useful rounds) ids out
listed_room {answer} {listed} {cells} {useful} {rounds} {ids} {out} is room =
    let r = subst (λ (x : Answer). AnswerRoom x ids out) is room in
    record { room = omega (arith, r.room); writable = r.writable }

pub above-requires : goal.above-requires
above-requires c =
    let l = c.in-Listed in
    small_at (numbers l.listed l.cells l.useful l.rounds) 1 l.listed (listed_room l.is c.requires).writable (lit< tt) refl

pub above-requires-in-Listed : goal.above-requires-in-Listed
above-requires-in-Listed c =
    let l = c.in-Listed in
    small_at (numbers l.listed l.cells l.useful l.rounds) 2 l.cells (listed_room l.is c.requires).writable (lit< tt) refl

pub above-requires-in-Listed-2 : goal.above-requires-in-Listed-2
above-requires-in-Listed-2 c =
    let l = c.in-Listed in
    small_at (numbers l.listed l.cells l.useful l.rounds) 3 l.useful (listed_room l.is c.requires).writable (lit< tt) refl

pub above-requires-in-Listed-3 : goal.above-requires-in-Listed-3
above-requires-in-Listed-3 c =
    let l = c.in-Listed in
    small_at (numbers l.listed l.cells l.useful l.rounds) 4 l.rounds (listed_room l.is c.requires).writable (lit< tt) refl

-- the line of these numbers, each as it is in a word of 32 bits
first :
    {letter n listed cells useful rounds : ℕ} {before after : List ℕ} {a b c d : ℤ}
    → a ≡ pos listed
    → b ≡ pos cells
    → c ≡ pos useful
    → d ≡ pos rounds
    → Written (line_of letter (pos 0 ∷ a ∷ b ∷ c ∷ d ∷ [])) before after n
    → Written (line_of letter (map pos (numbers listed cells useful rounds))) before after n
first e f g h w = rw (sym e, sym f, sym g, sym h) w

pub write_ids-requires : goal.write_ids-requires
write_ids-requires c =
    let l = c.in-Listed in
    let room = listed_room l.is c.requires in
    let w =
    first (got w32 _ (pos l.listed) c.above.type_inv c.above.ensures) (got w32 _ (pos l.cells) c.above-in-Listed.type_inv c.above-in-Listed.ensures)
    (got w32 _ (pos l.useful) c.above-in-Listed-2.type_inv c.above-in-Listed-2.ensures)
    (got w32 _ (pos l.rounds) c.above-in-Listed-3.type_inv c.above-in-Listed-3.ensures) c.write_line-end.ensures in
    omega (arith, w.count, length_fields (map pos (numbers l.listed l.cells l.useful l.rounds)) room.writable, room.room, c.write_line-end.auto.out)

pub returns-in-Listed : goal.returns-in-Listed
returns-in-Listed c =
    let l = c.in-Listed in
    let room = listed_room l.is c.requires in
    let ids = c.args.ids.now in
    let w =
    first (got w32 _ (pos l.listed) c.above.type_inv c.above.ensures) (got w32 _ (pos l.cells) c.above-in-Listed.type_inv c.above-in-Listed.ensures)
    (got w32 _ (pos l.useful) c.above-in-Listed-2.type_inv c.above-in-Listed-2.ensures)
    (got w32 _ (pos l.rounds) c.above-in-Listed-3.type_inv c.above-in-Listed-3.ensures) c.write_line-end.ensures in
    rw l.is
    (line_more c.args.letter (map pos (numbers l.listed l.cells l.useful l.rounds)) (map pos ids) c.args.out.now c.write_line-end.new.out c.write_ids.new.out
    c.write_line-end.result (c.write_line-end.result + 10 * length ids) room.writable (ids_writable ids (λ i. (c.type_inv.ids i).fits)) w c.write_ids.ensures
    (ap (λ (n : ℕ). c.write_line-end.result + 10 * n) (sym (length-map ids pos))))
