-- The three tests are those of the definition.
use Rattle.std.proofs.Common.{rules, ◌≡◌, ◌&&◌, ◌∙◌, sym, true, false, nat_eq, length}
use Rattle.records.specs.Records.{store_words}
use Rattle.records.specs.Soundness.{is_sound_header, is_sound_store}
use Rattle.records.proofs.SoundnessLaws.{is_sound_body}
use Rattle.records.proofs.soundness.is_sound_store.Goals as goal
use Rattle.records.proofs.soundness.is_sound_store.Goals.{then-store-eq-STORE_WORDS, else-store-eq-STORE_WORDS}

pub returns-then-is_sound_header : goal.returns-then-is_sound_header
unfolding is_sound_store
returns-then-is_sound_header c =
    let s = c.args.store.now in
    let front = nat_eq (length s) store_words && is_sound_header s in
    let e : c.if-store-eq-STORE_WORDS.value ≡ front = elim c.if-store-eq-STORE_WORDS.branch [ then-store-eq-STORE_WORDS w ↦ search rules | else-store-eq-STORE_WORDS w ↦ search rules ] in
    let f : front ≡ true = sym e ∙ c.if-is_sound_header.true in
    let g : is_sound_body s ≡ front && is_sound_body s = simp f in
    c.is_sound_body.ensures ∙ g

pub returns-else-is_sound_header : goal.returns-else-is_sound_header
unfolding is_sound_store
returns-else-is_sound_header c =
    let s = c.args.store.now in
    let front = nat_eq (length s) store_words && is_sound_header s in
    let e : c.if-store-eq-STORE_WORDS.value ≡ front = elim c.if-store-eq-STORE_WORDS.branch [ then-store-eq-STORE_WORDS w ↦ search rules | else-store-eq-STORE_WORDS w ↦ search rules ] in
    let f : front ≡ false = sym e ∙ c.if-is_sound_header.false in
    let g : false ≡ front && is_sound_body s = simp f in
    c.if-is_sound_header.false ∙ g
