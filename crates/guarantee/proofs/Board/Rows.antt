-- One console's row: the console, its frames and the nodes' tags. What holds of it (RowOk), what an open operation knows of
-- an earlier tag (Floor), and that each delivery keeps both. No board stands here.
use Prim.Native.Nat.{ℕ, ◌+◌, ◌^◌, ◌≤◌, ◌<◌}
use mathlib.Core.Bool.{Bool, true, false, cond, ◌&&◌, ◌||◌}
use mathlib.Core.Logic.{◌≢◌}
use mathlib.Core.Path.{refl, sym, ap, ◌≡◌, ◌∙◌}
use native.Mathlib.Omega.{arith}
use borrow.Author.Tests.{eqb-true, eqb-false, ne_eqb}
use lib.Dec.{eqb}
use Rattle.parts.proofs.FiniteLaws.{and_left, and_right}
use Rattle.parts.specs.AnsweredSet.{insert, member, size}
use Rattle.parts.specs.Finite.{count, one}
use Rattle.parts.specs.Parts.{is_asking, is_nothing, is_telling, is_waiting, to_telling, writes}
use Rattle.parts.specs.Sizes.{ask_size, tell_size}
use Rattle.std.specs.Ordering.{is_eq}
use Rattle.parts.specs.Tags.{compared, greater}
use Rattle.parts.specs.declared.Console.{Console}
use Rattle.parts.specs.declared.Frame.{Frame}
use Rattle.parts.specs.declared.Frame.TheVariants.{Ack, Ask, Nothing, Put, Reply}
use Rattle.parts.specs.declared.Setup.{Setup}
use Rattle.parts.specs.declared.Tag.{Tag}
use Rattle.decisions.specs.Changes.{acked, hears, next_tag, still_alike, tells}
use Rattle.guarantee.proofs.Laws.Quorums.{Meet, meet}
use Rattle.guarantee.proofs.Laws.Sets.{insert_other, insert_same, insert_small, member_empty, power_pos, size_count, small_32}
use Rattle.guarantee.proofs.Laws.Tags.{Small, greater_false, greater_true, key, same_key}
use Rattle.guarantee.proofs.Laws.Sizes.{Allowed, quorum}
use Rattle.guarantee.proofs.Laws.States.{asking_waits, contra, not_both, split, telling_waits, turns}

-- ---- what a waiting console's frames are, by whether its node has answered

-- asking: an ask, a reply with a tag no greater than its node's, or nothing once the node has answered; and while the mark is
-- on, the tag of a node that has answered is no lower than best
pub data AskFrame (alike : Bool) (best tag : Tag) : Bool → Frame → Type 0 where
  unasked : AskFrame alike best tag false Ask
  replied_with : {t : Tag} {v : ℕ} → key t ≤ key tag → AskFrame alike best tag false (Reply t v)
  had : (alike ≡ true → key best ≤ key tag) → AskFrame alike best tag true Nothing

-- telling: the put of best, or an ack or nothing where the node's tag is no lower than best
pub data TellFrame (best tag : Tag) : Bool → Frame → Type 0 where
  untold : {v : ℕ} → TellFrame best tag false (Put best v)
  took : key best ≤ key tag → TellFrame best tag false Ack
  has : key best ≤ key tag → TellFrame best tag true Nothing

pub tell_not_ask : {best tag : Tag} {a : Bool} → TellFrame best tag a Ask → ⊥
tell_not_ask = elim [ ]

pub tell_not_reply : {best tag : Tag} {a : Bool} {u : Tag} {v : ℕ} → TellFrame best tag a (Reply u v) → ⊥
tell_not_reply = elim [ ]

pub ask_not_ack : {alike : Bool} {best tag : Tag} {a : Bool} → AskFrame alike best tag a Ack → ⊥
ask_not_ack = elim [ ]

pub ask_not_put : {alike : Bool} {best tag : Tag} {a : Bool} {u : Tag} {v : ℕ} → AskFrame alike best tag a (Put u v) → ⊥
ask_not_put = elim [ ]

replied_tag : {alike : Bool} {best tag : Tag} {a : Bool} {u : Tag} {v : ℕ} → AskFrame alike best tag a (Reply u v) → key u ≤ key tag
replied_tag (replied_with h) = h

had_tag : {alike : Bool} {best tag : Tag} {f : Frame} → alike ≡ true → AskFrame alike best tag true f → key best ≤ key tag
had_tag on (had h) = h on

took_tag : {best tag : Tag} {a : Bool} → TellFrame best tag a Ack → key best ≤ key tag
took_tag (took h) = h

has_tag : {best tag : Tag} {f : Frame} → TellFrame best tag true f → key best ≤ key tag
has_tag (has h) = h

-- a frame in a waiting console's row is of a node that has not answered, and such a node has one
pub ask_open : {alike : Bool} {best tag : Tag} {a : Bool} {f : Frame} → AskFrame alike best tag a f → is_nothing f ≡ false → a ≡ false
ask_open unasked e = refl
ask_open (replied_with h) e = refl
ask_open (had h) e = e

pub tell_open : {best tag : Tag} {a : Bool} {f : Frame} → TellFrame best tag a f → is_nothing f ≡ false → a ≡ false
tell_open untold e = refl
tell_open (took h) e = refl
tell_open (has h) e = e

pub ask_full : {alike : Bool} {best tag : Tag} {f : Frame} → AskFrame alike best tag false f → is_nothing f ≡ false
ask_full unasked = refl
ask_full (replied_with h) = refl

pub tell_full : {best tag : Tag} {f : Frame} → TellFrame best tag false f → is_nothing f ≡ false
tell_full untold = refl
tell_full (took h) = refl

-- an ask is delivered
pub ask_replied : {alike : Bool} {best tag : Tag} {a : Bool} (v : ℕ) → AskFrame alike best tag a Ask → AskFrame alike best tag a (Reply tag v)
ask_replied {tag = tag} v unasked = replied_with {t = tag} (omega arith)

-- a put is delivered, to a node whose tag is no lower afterwards
pub put_took : {best tag : Tag} {a : Bool} {u : Tag} {v : ℕ} → key u ≤ key tag → TellFrame best tag a (Put u v) → TellFrame best tag a Ack
put_took h untold = took h

abbrev pub is_reply : Frame → Bool
is_reply Nothing = false
is_reply Ask = false
is_reply (Reply t v) = true
is_reply (Put t v) = false
is_reply Ack = false

-- no frame but a reply is one
pub not_reply : {f : Frame} {u : Tag} {v : ℕ} → is_reply f ≡ false → f ≡ Reply u v → ⊥
not_reply n e = contra (ap is_reply e) n

-- ---- the row, and the floor that an earlier tag, given by its key, puts under the operation

pub record RowOk (σ : Setup) (x : Console) (fr : ℕ → Frame) (tg : ℕ → Tag) : Type 0 where
  pub small : x.answered < 2 ^ σ.n
  pub asking : is_asking x.state ≡ true → (k : ℕ) → k < σ.n → AskFrame x.alike x.best (tg k) (member x.answered k) (fr k)
  pub telling : is_telling x.state ≡ true → (k : ℕ) → k < σ.n → TellFrame x.best (tg k) (member x.answered k) (fr k)

-- a node that holds the tag, replies no less, and has made best no less if it has answered
pub record Backs (best tag : Tag) (t : ℕ) (answered : Bool) (f : Frame) : Type 0 where
  pub holds : t ≤ key tag
  pub replies : (u : Tag) (v : ℕ) → f ≡ Reply u v → t ≤ key u
  pub told : answered ≡ true → t ≤ key best

-- a telling group of such nodes
pub record Backed (σ : Setup) (x : Console) (fr : ℕ → Frame) (tg : ℕ → Tag) (t : ℕ) : Type 0 where
  pub members : ℕ → Bool
  pub enough : tell_size σ ≤ count σ.n members
  pub each : (k : ℕ) → k < σ.n → members k ≡ true → Backs x.best (tg k) t (member x.answered k) (fr k)

-- asking: the tag is backed; telling: best is no lower, and higher for a write
pub record Floor (σ : Setup) (x : Console) (fr : ℕ → Frame) (tg : ℕ → Tag) (t : ℕ) : Type 0 where
  pub asks : is_asking x.state ≡ true → Backed σ x fr tg t
  pub tells : is_telling x.state ≡ true → t + one (writes x.state) ≤ key x.best

-- a telling group holds the tag
abbrev pub Held : Setup → (ℕ → Tag) → ℕ → Type 0
Held σ tg t = (s : ℕ → Bool) × (tell_size σ ≤ count σ.n s) × ((k : ℕ) → k < σ.n → s k ≡ true → t ≤ key (tg k))

-- ---- one frame changes

pub record Changed (k : ℕ) (f : Frame) (old new : ℕ → Frame) : Type 0 where
  pub at : new k ≡ f
  pub off : (j : ℕ) → j < 5 → j ≢ k → new j ≡ old j

-- what holds of the new frame, and of the others as they were, holds of all
pub changed : {k : ℕ} {f : Frame} {old new : ℕ → Frame} → Changed k f old new → (P : ℕ → Frame → Type 0)
    → P k f → ((j : ℕ) → j < 5 → j ≢ k → P j (old j)) → (j : ℕ) → j < 5 → P j (new j)
changed {k} {f} {old} {new} w P h o j l = go (eqb j k) refl
  where
    go : (x : Bool) → eqb j k ≡ x → P j (new j)
    go true e = rw (eqb-true j k e, w.at) h
    go false e = rw (w.off j l (eqb-false j k e)) (o j l (eqb-false j k e))

-- ---- the tags grow: all that another console's step does to a row

ask_grow : {alike : Bool} {best tag tag' : Tag} {a : Bool} {f : Frame} → key tag ≤ key tag' → AskFrame alike best tag a f → AskFrame alike best tag' a f
ask_grow g unasked = unasked
ask_grow g (replied_with {t = t} h) = replied_with {t = t} (omega arith)
ask_grow g (had h) = had (λ e. omega (arith, h e))

-- the mark and best change; if the mark is on now and the node has answered, it was on before, with the same best
ask_older : {alike alike' : Bool} {best best' tag : Tag} {a : Bool} {f : Frame} → (a ≡ true → alike' ≡ true → (alike ≡ true) × (key best' ≡ key best))
    → AskFrame alike best tag a f → AskFrame alike' best' tag a f
ask_older w unasked = unasked
ask_older w (replied_with {t = t} h) = replied_with {t = t} h
ask_older w (had h) = had (λ on. omega (arith, (w refl on).1, h (w refl on).0))

pub tell_grow : {best tag tag' : Tag} {a : Bool} {f : Frame} → key tag ≤ key tag' → TellFrame best tag a f → TellFrame best tag' a f
tell_grow g untold = untold
tell_grow g (took h) = took (omega arith)
tell_grow g (has h) = has (omega arith)

module _ (σ : Setup) (x : Console) (fr : ℕ → Frame) (tg tg' : ℕ → Tag) (grow : (k : ℕ) → k < σ.n → key (tg k) ≤ key (tg' k)) where
  grow_backed : (t : ℕ) → Backed σ x fr tg t → Backed σ x fr tg' t
  grow_backed t g = record {
    members = g.members;
    enough = g.enough;
    each = λ j l i. record {
      holds = omega (arith, grow j l, (g.each j l i).holds);
      replies = (g.each j l i).replies;
      told = (g.each j l i).told;
    };
  }

  pub grow_floor : (t : ℕ) → Floor σ x fr tg t → Floor σ x fr tg' t
  grow_floor t h = record { asks = λ e. grow_backed t (h.asks e); tells = h.tells }

  pub grow_row : RowOk σ x fr tg → RowOk σ x fr tg'
  grow_row h = record { small = h.small; asking = λ e j l. ask_grow (grow j l) (h.asking e j l); telling = λ e j l. tell_grow (grow j l) (h.telling e j l) }

-- ---- a frame changes, and a reply in it has no lower a tag than the node: an ask, a put or a frame that is thrown away

module _ (σ : Setup) (five : σ.n ≤ 5) (k : ℕ) (below : k < σ.n) (x : Console) (f : Frame) (fr fr' : ℕ → Frame) (tg : ℕ → Tag) (now : Changed k f fr fr') where
  pub frame_floor : ((u : Tag) (v : ℕ) → f ≡ Reply u v → key (tg k) ≤ key u) → (t : ℕ) → Floor σ x fr tg t → Floor σ x fr' tg t
  frame_floor high t h = record { asks = λ e. backed (h.asks e); tells = h.tells }
    where
      backed : Backed σ x fr tg t → Backed σ x fr' tg t
      backed g = record {
        members = g.members;
        enough = g.enough;
        each = λ j l i. changed now
            (λ j f. j < σ.n → g.members j ≡ true → Backs x.best (tg j) t (member x.answered j) f)
            (λ l i. record { holds = (g.each k l i).holds; replies = λ u v q. omega (arith, high u v q, (g.each k l i).holds); told = (g.each k l i).told })
            (λ j _ _ l i. g.each j l i) j (omega arith) l i;
      }

  pub frame_row : (is_asking x.state ≡ true → AskFrame x.alike x.best (tg k) (member x.answered k) f)
      → (is_telling x.state ≡ true → TellFrame x.best (tg k) (member x.answered k) f)
      → RowOk σ x fr tg → RowOk σ x fr' tg
  frame_row a b h = record {
    small = h.small;
    asking = λ e j l. changed now (λ j f. j < σ.n → AskFrame x.alike x.best (tg j) (member x.answered j) f) (λ l. a e) (λ j _ _ l. h.asking e j l) j (omega arith) l;
    telling = λ e j l. changed now (λ j f. j < σ.n → TellFrame x.best (tg j) (member x.answered j) f) (λ l. b e) (λ j _ _ l. h.telling e j l) j (omega arith) l;
  }

-- ---- a reply is heard

-- a set with a member is not empty
some_member : (a k : ℕ) → k < 5 → member a k ≡ true → eqb a 0 ≡ false
some_member a k l e = ne_eqb a 0 (λ z. contra (rw z at e) (member_empty k l))

best_grows : (x : Console) (k : ℕ) (u : Tag) (v : ℕ) → Small x.best → Small u
    → (key x.best ≤ key (hears x k u v).best) × (key u ≤ key (hears x k u v).best)
unfolding hears
best_grows x k u v h i = go (greater u x.best) refl
  where
    go : (z : Bool) → greater u x.best ≡ z → (key x.best ≤ key (cond z u x.best)) × (key u ≤ key (cond z u x.best))
    go true e = omega (arith, greater_true u x.best i h e)
    go false e = omega (arith, greater_false u x.best i h e)

-- the mark is on after a reply: then the reply has best's tag, and unless it is the first the mark was on before, with the same
-- best. By this, answer by answer, every answer so far has carried best's tag while the mark is on
record Alike (x : Console) (k : ℕ) (u : Tag) (v : ℕ) : Type 0 where
  reply_has : key (hears x k u v).best ≡ key u
  older_have : eqb x.answered 0 ≡ false → (x.alike ≡ true) × (key (hears x k u v).best ≡ key x.best)

all_alike : (x : Console) (k : ℕ) (u : Tag) (v : ℕ) → Small x.best → Small u → (eqb x.answered 0 ≡ true → key x.best ≡ 0)
    → (hears x k u v).alike ≡ true → Alike x k u v
unfolding hears still_alike
all_alike x k u v h i zero on = go (eqb x.answered 0) refl on
  where
    first : eqb x.answered 0 ≡ true → key (cond (greater u x.best) u x.best) ≡ key u
    first e = split (λ (t : Tag). key t ≡ key u) (greater u x.best) (λ _. refl) (λ f. omega (arith, greater_false u x.best i h f, zero e))

    later : key u ≡ key x.best → (key (cond (greater u x.best) u x.best) ≡ key u) × (key (cond (greater u x.best) u x.best) ≡ key x.best)
    later e = split (λ (t : Tag). (key t ≡ key u) × (key t ≡ key x.best)) (greater u x.best) (λ _. (refl, e)) (λ _. (sym e, refl))

    go : (z : Bool) → eqb x.answered 0 ≡ z → (z || x.alike && is_eq (compared u x.best)) ≡ true → Alike x k u v
    go true e o = record { reply_has = first e; older_have = λ n. absurd (contra e n) }
    go false e o =
        let same = later (same_key u x.best i h (and_right x.alike _ o)) in
        record { reply_has = same.0; older_have = λ _. (and_left x.alike _ o, same.1) }

module _ (σ : Setup) (five : σ.n ≤ 5) (k : ℕ) (below : k < σ.n) (x : Console) (u : Tag) (v : ℕ) (fr fr' : ℕ → Frame) (tg : ℕ → Tag)
    (by-best : Small x.best) (by-reply : Small u)
    (small : x.answered < 2 ^ σ.n) (was : fr k ≡ Reply u v) (now : Changed k Nothing fr fr') where
  bits : (j : ℕ) → j < 5 → j ≢ k → member (insert x.answered k) j ≡ member x.answered j
  bits j l h = insert_other x.answered k (small_32 σ.n x.answered five small) (omega arith) j l h

  pub heard_backed : (t : ℕ) → Backed σ x fr tg t → Backed σ (hears x k u v) fr' tg t
  unfolding hears
  heard_backed t g = record {
    members = g.members;
    enough = g.enough;
    each = λ j l i. changed now
        (λ j f. j < σ.n → g.members j ≡ true → Backs (hears x k u v).best (tg j) t (member (insert x.answered k) j) f)
        (λ l i. record {
          holds = (g.each k l i).holds;
          replies = λ u v q. absurd (not_reply refl q);
          told = λ _. omega (arith, (best_grows x k u v by-best by-reply).1, (g.each k l i).replies u v was);
        })
        (λ j a b l i. record {
          holds = (g.each j l i).holds;
          replies = (g.each j l i).replies;
          told = λ e. omega (arith, (best_grows x k u v by-best by-reply).0, (g.each j l i).told (sym (bits j a b) ∙ e));
        })
        j (omega arith) l i;
  }

  pub heard_floor : (t : ℕ) → is_asking x.state ≡ true → Floor σ x fr tg t → Floor σ (hears x k u v) fr' tg t
  unfolding hears
  heard_floor t p h = record { asks = λ e. heard_backed t (h.asks e); tells = λ e. absurd (not_both x.state p e) }

  pub heard_row : (eqb x.answered 0 ≡ true → key x.best ≡ 0) → is_asking x.state ≡ true → RowOk σ x fr tg → RowOk σ (hears x k u v) fr' tg
  unfolding hears
  heard_row zero p h = record {
    small = insert_small σ.n x.answered k five small below;
    asking = λ e j l. changed now (λ j f. j < σ.n → AskFrame (hears x k u v).alike (hears x k u v).best (tg j) (member (insert x.answered k) j) f)
        (λ l. rw (insert_same x.answered k (small_32 σ.n x.answered five small) (omega arith))
        (had (λ on. omega (arith, (all_alike x k u v by-best by-reply zero on).reply_has, replied_tag (rw was at (h.asking e k l))))))
        (λ j a b l. rw (bits j a b) (older j a (h.asking e j l))) j (omega arith) l;
    telling = λ e. absurd (not_both x.state p e);
  }
    where
      -- another node's frame stays, and where it has answered the mark, if it is on, was on
      older : (j : ℕ) → j < 5 → AskFrame x.alike x.best (tg j) (member x.answered j) (fr j)
          → AskFrame (hears x k u v).alike (hears x k u v).best (tg j) (member x.answered j) (fr j)
      older j a = ask_older (λ m on. (all_alike x k u v by-best by-reply zero on).older_have (some_member x.answered j a m))

-- enough replies are heard: the asking group meets the group that backs the tag, so one of the replies told it
pub heard_all : (σ : Setup) → Allowed σ → (x : Console) (fr : ℕ → Frame) (tg : ℕ → Tag) (t : ℕ) → x.answered < 2 ^ σ.n → ask_size σ ≤ size x.answered
    → Backed σ x fr tg t → t ≤ key x.best
heard_all σ al x fr tg t small all g = go (meet σ.n g.members (member x.answered) (omega (arith, size_count σ.n x.answered al.n_5 small, g.enough, quorum al)))
  where
    go : Meet σ.n g.members (member x.answered) → t ≤ key x.best
    go r = (g.each r.0 r.1 r.2).told r.3

-- the nodes that have answered hold best, and are enough for a telling group
answered_held : (σ : Setup) (x : Console) (tg : ℕ → Tag) → σ.n ≤ 5 → x.answered < 2 ^ σ.n → tell_size σ ≤ size x.answered
    → ((k : ℕ) → k < σ.n → member x.answered k ≡ true → key x.best ≤ key (tg k)) → Held σ tg (key x.best)
answered_held σ x tg five small all each = (member x.answered, omega (arith, size_count σ.n x.answered five small), each)

-- enough replies, and the mark is on: without being told
pub early_held : (σ : Setup) (x : Console) (fr : ℕ → Frame) (tg : ℕ → Tag) → σ.n ≤ 5 → is_asking x.state ≡ true → x.alike ≡ true → tell_size σ ≤ size x.answered → RowOk σ x fr tg
    → Held σ tg (key x.best)
early_held σ x fr tg five p on all h = answered_held σ x tg five h.small all (λ k l e. had_tag on (rw e at (h.asking p k l)))

-- the console tells what it has heard, a write a higher tag
pub turned_floor : (σ : Setup) (c : ℕ) (x : Console) (fr : ℕ → Frame) (tg : ℕ → Tag) (t : ℕ) → is_asking x.state ≡ true → Small x.best → t ≤ key x.best
    → Floor σ (tells c x) fr tg t
unfolding tells next_tag
turned_floor σ c x fr tg t p h i = record {
  asks = λ e. absurd (not_both (to_telling x.state) e (turns x.state p).0);
  tells = λ _. omega (arith, ap one (turns x.state p).1, go (writes x.state));
}
  where
    go : (w : Bool) → t + one w ≤ key (cond w (next_tag c x) x.best)
    go true = omega (arith, h.console_8, h.life_fits)
    go false = omega arith

-- a row of puts, none answered
pub turned_row : (σ : Setup) (c : ℕ) (x : Console) (fr : ℕ → Frame) (tg : ℕ → Tag) → σ.n ≤ 5 → is_asking x.state ≡ true
    → ((k : ℕ) → k < σ.n → fr k ≡ Put (tells c x).best (tells c x).value) → RowOk σ (tells c x) fr tg
unfolding tells
turned_row σ c x fr tg five p all = record {
  small = power_pos σ.n five;
  asking = λ e. absurd (not_both (to_telling x.state) e (turns x.state p).0);
  telling = λ e k l. rw (member_empty k (omega arith), all k l) untold;
}

-- ---- an ack is heard

module _ (σ : Setup) (five : σ.n ≤ 5) (k : ℕ) (below : k < σ.n) (x : Console) (fr fr' : ℕ → Frame) (tg : ℕ → Tag)
    (phase : is_telling x.state ≡ true) (small : x.answered < 2 ^ σ.n) (was : fr k ≡ Ack) (now : Changed k Nothing fr fr') where
  pub acked_floor : (t : ℕ) → Floor σ x fr tg t → Floor σ (acked x k) fr' tg t
  unfolding acked
  acked_floor t h = record { asks = λ e. absurd (not_both x.state e phase); tells = h.tells }

  pub acked_row : RowOk σ x fr tg → RowOk σ (acked x k) fr' tg
  unfolding acked
  acked_row h = record {
    small = insert_small σ.n x.answered k five small below;
    asking = λ e. absurd (not_both x.state e phase);
    telling = λ e j l. changed now (λ j f. j < σ.n → TellFrame x.best (tg j) (member (insert x.answered k) j) f)
        (λ l. rw (insert_same x.answered k (small_32 σ.n x.answered five small) (omega arith)) (has (took_tag (rw was at (h.telling e k l)))))
        (λ j a b l. rw (insert_other x.answered k (small_32 σ.n x.answered five small) (omega arith) j a b) (h.telling e j l)) j (omega arith) l;
  }

-- enough acks: a telling group holds best
pub finished_held : (σ : Setup) (x : Console) (fr : ℕ → Frame) (tg : ℕ → Tag) → σ.n ≤ 5 → is_telling x.state ≡ true → tell_size σ ≤ size x.answered → RowOk σ x fr tg
    → Held σ tg (key x.best)
finished_held σ x fr tg five p all h = answered_held σ x tg five h.small all (λ k l e. has_tag (rw e at (h.telling p k l)))

-- ---- a console begins

pub begun_floor : (σ : Setup) (x : Console) (fr : ℕ → Frame) (tg : ℕ → Tag) (t : ℕ) → σ.n ≤ 5 → is_asking x.state ≡ true → x.answered ≡ 0
    → ((k : ℕ) → k < σ.n → fr k ≡ Ask) → Held σ tg t → Floor σ x fr tg t
begun_floor σ x fr tg t five p z all h = record {
  tells = λ e. absurd (not_both x.state p e);
  asks = λ _. record {
    members = h.0;
    enough = h.1;
    each = λ k l i. record {
      holds = h.2 k l i;
      replies = λ u v q. absurd (not_reply (ap is_reply (all k l)) q);
      told = λ e. absurd (contra (rw z at e) (member_empty k (omega arith)));
    };
  };
}

-- a console without an operation: nothing is asked of its row
pub rest_row : (σ : Setup) (x : Console) (fr : ℕ → Frame) (tg : ℕ → Tag) → σ.n ≤ 5 → x.answered ≡ 0 → is_waiting x.state ≡ false → RowOk σ x fr tg
rest_row σ x fr tg five z w = record {
  small = rw z (power_pos σ.n five);
  asking = λ p. absurd (contra (asking_waits x.state p) w);
  telling = λ p. absurd (contra (telling_waits x.state p) w);
}
