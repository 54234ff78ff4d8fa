-- A node, a console and a cell each: what is written is read again and stands for a part; and what stands for one is
-- what that part is written as.
use Rattle.std.proofs.Common.{ℕ, zero, suc, ◌+◌, ◌*◌, ◌/◌, ◌%◌, ◌<◌, Bool, true, false, not, ◌&&◌, ◌||◌, List, [], ◌∷◌, length, eqb, leb, ◌≡◌, refl, sym, ap, ◌∙◌, arith}
use Rattle.std.proofs.lemmas.List.{ext_get_or}
use borrow.Author.Tests.{eqb-true, leb-true, le-leb}
use Rattle.parts.specs.declared.Tag.{Tag}
use Rattle.parts.specs.declared.Release.{Release}
use Rattle.parts.specs.declared.Release.TheVariants.{One, Two}
use Rattle.parts.specs.declared.Frame.{Frame}
use Rattle.parts.specs.declared.Frame.TheVariants.{Nothing, Ask, Reply, Put, Ack}
use Rattle.parts.specs.declared.Kind.TheVariants.{Read, Write}
use Rattle.parts.specs.declared.State.{State}
use Rattle.parts.specs.declared.State.TheVariants.{Idle, Asking, Telling, Down}
use Rattle.parts.specs.Finite.{one}
use Rattle.parts.specs.Parts.{cell_of}
use Rattle.parts.proofs.FiniteLaws.{and_left, and_right}
use Rattle.layout.proofs.Rows.{PartLaws}
use Rattle.layout.specs.Layout.{TagFits, NodeFits, ConsoleFits, CellFits, half_word, word, node_words, console_words, cell_words, tag_of, release_of, node_from, state_of, console_from, frame_of, cell_from, release_number, owner_word, node_fields, state_number, console_fields, frame_number, frame_tag, frame_value, cell_fields}
use Rattle.layout.specs.Wide.{node_wide, console_wide, cell_wide}
use Rattle.layout.specs.Standing.{last_state, last_frame, last_set, last_mark, last_half, release_stands, node_stands, console_stands, frame_stands, cell_stands}

-- ---- marks and setups

flag_back : (u : Bool) → not (eqb (one u) 0) ≡ u
flag_back true = refl
flag_back false = refl

flag_stands : (u : Bool) → leb (one u) last_mark ≡ true
flag_stands true = refl
flag_stands false = refl

flag_again : (x : ℕ) → leb x last_mark ≡ true → one (not (eqb x 0)) ≡ x
flag_again zero h = refl
flag_again (suc zero) h = refl
flag_again (suc (suc x)) h = absurd (omega (arith, leb-true (suc (suc x)) last_mark h))

pub release_back : (e : Release) → release_of (release_number e) ≡ e
unfolding release_of release_number
release_back One = refl
release_back Two = refl

pub release_standing : (e : Release) → release_stands (release_number e) ≡ true
unfolding release_stands release_number
release_standing One = refl
release_standing Two = refl

pub release_again : (i : ℕ) → release_stands i ≡ true → release_number (release_of i) ≡ i
unfolding release_stands release_of release_number
release_again i h = go (eqb i 1) refl (eqb i 2) refl
  where
    go : (x : Bool) → eqb i 1 ≡ x → (y : Bool) → eqb i 2 ≡ y → release_number (release_of i) ≡ i
    go true e y f = rw (eqb-true i 1 e)
    go false e true f = rw (eqb-true i 2 f)
    go false e false f =
        let none : false ≡ true = rw (e, f) at h in
        cc

-- ---- tags: console and life share a word

tag_back : (t : Tag) → TagFits t → tag_of t.ts (owner_word t) ≡ t
unfolding tag_of owner_word
tag_back t fits = rw (console, life)
  where
    console : (t.console * half_word + t.life) / half_word ≡ t.console
    console = omega (arith, fits.life)

    life : (t.console * half_word + t.life) % half_word ≡ t.life
    life = omega (arith, fits.life)

-- every word is the owner of some tag
owner_again : (t o : ℕ) → owner_word (tag_of t o) ≡ o
unfolding tag_of owner_word
owner_again t o = omega arith

-- ---- nodes

node_again : (u : List ℕ) → length u ≡ node_words → node_stands u ≡ true → node_fields (node_from u) ≡ u
unfolding node_fields node_from node_stands tag_of
node_again u long h = ext_get_or 0 (node_fields (node_from u)) u (sym long) fields
  where
    fields : (k : ℕ) → k < node_words → word (node_fields (node_from u)) k ≡ word u k
    fields zero l = flag_again (word u 0) h
    fields (suc zero) l = refl
    fields (suc (suc zero)) l = owner_again (word u 1) (word u 2)
    fields (suc (suc (suc zero))) l = refl
    fields (suc (suc (suc (suc k)))) l = absurd (omega arith)

pub node_laws : PartLaws node_words NodeFits node_from node_stands node_fields
unfolding node_fields node_from node_stands
node_laws = record {
  wide = node_wide;
  back = λ x fits. rw (flag_back x.up, tag_back x.tag fits);
  standing = λ x _. flag_stands x.up;
  again = node_again;
}

-- ---- consoles

state_back : (s : State) → state_of (state_number s) ≡ s
unfolding state_of state_number
state_back Idle = refl
state_back (Asking Read) = refl
state_back (Asking Write) = refl
state_back (Telling Read) = refl
state_back (Telling Write) = refl
state_back Down = refl

state_stands : (s : State) → leb (state_number s) last_state ≡ true
unfolding state_number
state_stands Idle = refl
state_stands (Asking Read) = refl
state_stands (Asking Write) = refl
state_stands (Telling Read) = refl
state_stands (Telling Write) = refl
state_stands Down = refl

state_again : (i : ℕ) → leb i last_state ≡ true → state_number (state_of i) ≡ i
unfolding state_number state_of
state_again zero h = refl
state_again (suc zero) h = refl
state_again (suc (suc zero)) h = refl
state_again (suc (suc (suc zero))) h = refl
state_again (suc (suc (suc (suc zero)))) h = refl
state_again (suc (suc (suc (suc (suc zero))))) h = refl
state_again (suc (suc (suc (suc (suc (suc i)))))) h = absurd (omega (arith, leb-true (suc (suc (suc (suc (suc (suc i)))))) last_state h))

console_again : (u : List ℕ) → length u ≡ console_words → console_stands u ≡ true → console_fields (console_from u) ≡ u
unfolding console_fields console_from console_stands tag_of
console_again u long h = ext_get_or 0 (console_fields (console_from u)) u (sym long) fields
  where
    three : (leb (word u 0) last_state && leb (word u 2) last_set && leb (word u 6) last_mark) ≡ true
    three = and_left (leb (word u 0) last_state && leb (word u 2) last_set && leb (word u 6) last_mark) (leb (word u 7) last_half) h

    two : (leb (word u 0) last_state && leb (word u 2) last_set) ≡ true
    two = and_left (leb (word u 0) last_state && leb (word u 2) last_set) (leb (word u 6) last_mark) three

    fields : (k : ℕ) → k < console_words → word (console_fields (console_from u)) k ≡ word u k
    fields zero l = state_again (word u 0) (and_left (leb (word u 0) last_state) (leb (word u 2) last_set) two)
    fields (suc zero) l = refl
    fields (suc (suc zero)) l = omega (arith, leb-true (word u 2) last_set (and_right (leb (word u 0) last_state) (leb (word u 2) last_set) two))
    fields (suc (suc (suc zero))) l = refl
    fields (suc (suc (suc (suc zero)))) l = owner_again (word u 3) (word u 4)
    fields (suc (suc (suc (suc (suc zero))))) l = refl
    fields (suc (suc (suc (suc (suc (suc zero)))))) l = flag_again (word u 6) (and_right (leb (word u 0) last_state && leb (word u 2) last_set) (leb (word u 6) last_mark) three)
    fields (suc (suc (suc (suc (suc (suc (suc zero))))))) l = omega (arith, leb-true (word u 7) last_half (and_right (leb (word u 0) last_state && leb (word u 2) last_set && leb (word u 6) last_mark) (leb (word u 7) last_half) h))
    fields (suc (suc (suc (suc (suc (suc (suc (suc k)))))))) l = absurd (omega arith)

pub console_laws : PartLaws console_words ConsoleFits console_from console_stands console_fields
unfolding console_fields console_from console_stands
console_laws = record {
  wide = console_wide;
  back = λ x fits.
      let answered : x.answered % 256 ≡ x.answered = omega (arith, fits.answered) in
      let life : x.life % half_word ≡ x.life = omega (arith, fits.life) in
      rw (state_back x.state, answered, tag_back x.best fits.best, flag_back x.alike, life);
  standing = λ x fits. rw (
    state_stands x.state,
    le-leb x.answered last_set (omega (arith, fits.answered)),
    flag_stands x.alike,
    le-leb x.life last_half (omega (arith, fits.life)),
  );
  again = console_again;
}

-- ---- cells

frame_back : (f : Frame) → frame_of (frame_number f) (frame_tag f) (frame_value f) ≡ f
unfolding frame_of frame_number frame_tag frame_value
frame_back Nothing = refl
frame_back Ask = refl
frame_back (Reply t v) = refl
frame_back (Put t v) = refl
frame_back Ack = refl

frame_standing : (f : Frame) → frame_stands (frame_number f) (frame_tag f).ts (owner_word (frame_tag f)) (frame_value f) ≡ true
unfolding frame_stands frame_number frame_tag frame_value owner_word
frame_standing Nothing = refl
frame_standing Ask = refl
frame_standing (Reply t v) = refl
frame_standing (Put t v) = refl
frame_standing Ack = refl

-- beside a frame without a tag all is 0
zeros : (t o v : ℕ) → (eqb t 0 && eqb o 0 && eqb v 0) ≡ true → (t ≡ 0) × (o ≡ 0) × (v ≡ 0)
zeros t o v h = (
  eqb-true t 0 (and_left (eqb t 0) (eqb o 0) (and_left (eqb t 0 && eqb o 0) (eqb v 0) h)),
  eqb-true o 0 (and_right (eqb t 0) (eqb o 0) (and_left (eqb t 0 && eqb o 0) (eqb v 0) h)),
  eqb-true v 0 (and_right (eqb t 0 && eqb o 0) (eqb v 0) h),
)

frame_again : (f t o v : ℕ) → frame_stands f t o v ≡ true → cell_fields (cell_of (frame_of f (tag_of t o) v)) ≡ f ∷ t ∷ o ∷ v ∷ []
unfolding frame_stands frame_of cell_fields frame_number frame_tag frame_value tag_of owner_word
frame_again zero t o v h = let z = zeros t o v h in rw (z.0, z.1, z.2)
frame_again (suc zero) t o v h = let z = zeros t o v h in rw (z.0, z.1, z.2)
frame_again (suc (suc zero)) t o v h = ap (λ x. 2 ∷ t ∷ x ∷ v ∷ []) (owner_again t o)
frame_again (suc (suc (suc zero))) t o v h = ap (λ x. 3 ∷ t ∷ x ∷ v ∷ []) (owner_again t o)
frame_again (suc (suc (suc (suc zero)))) t o v h = let z = zeros t o v h in rw (z.0, z.1, z.2)
frame_again (suc (suc (suc (suc (suc f))))) t o v h = absurd (omega (arith, leb-true (suc (suc (suc (suc (suc f))))) last_frame (and_left (leb (suc (suc (suc (suc (suc f))))) last_frame) (eqb (suc (suc (suc (suc (suc f))))) 2 || eqb (suc (suc (suc (suc (suc f))))) 3 || (eqb t 0 && eqb o 0 && eqb v 0)) h)))

cell_again : (u : List ℕ) → length u ≡ cell_words → cell_stands u ≡ true → cell_fields (cell_from u) ≡ u
unfolding cell_fields cell_from cell_stands
cell_again u long h = frame_again (word u 0) (word u 1) (word u 2) (word u 3) h ∙ sym (ext_get_or 0 u (word u 0 ∷ word u 1 ∷ word u 2 ∷ word u 3 ∷ []) long (λ k l. fields k (omega arith)))
  where
    fields : (k : ℕ) → k < cell_words → word u k ≡ word (word u 0 ∷ word u 1 ∷ word u 2 ∷ word u 3 ∷ []) k
    fields zero l = refl
    fields (suc zero) l = refl
    fields (suc (suc zero)) l = refl
    fields (suc (suc (suc zero))) l = refl
    fields (suc (suc (suc (suc k)))) l = absurd (omega arith)

pub cell_laws : PartLaws cell_words CellFits cell_from cell_stands cell_fields
unfolding cell_fields cell_from cell_stands
cell_laws = record {
  wide = cell_wide;
  back = λ x fits. rw (tag_back (frame_tag x.frame) fits, frame_back x.frame);
  standing = λ x _. frame_standing x.frame;
  again = cell_again;
}
