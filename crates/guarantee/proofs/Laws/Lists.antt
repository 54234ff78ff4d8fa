-- Of all, of one, and of each two of a list: how they follow from each other.
use mathlib.Core.List.{List, map, ◌∷◌, []}
use Rattle.guarantee.specs.Claim.{◌also◌, All, Any, here, none, there}

-- two lists of one length, each two of their members related
pub data Each {A : Type 0} (R : A → A → Type 0) : List A → List A → Type 0 where
  no_more : Each R [] []
  link : {x y : A} {l r : List A} → R x y → Each R l r → Each R (x ∷ l) (y ∷ r)

pub each_map : {A : Type 0} {R : A → A → Type 0} {P : A → Type 0} (f : A → A) → ((x : A) → P x → R x (f x)) → {l : List A} → All P l → Each R l (map f l)
each_map f h none = no_more
each_map f h (p also q) = link (h _ p) (each_map f h q)

pub each_same : {A : Type 0} {R : A → A → Type 0} {P : A → Type 0} → ((x : A) → P x → R x x) → {l : List A} → All P l → Each R l l
each_same h none = no_more
each_same h (p also q) = link (h _ p) (each_same h q)

pub each_flip : {A : Type 0} {R : A → A → Type 0} {l r : List A} → Each R l r → Each (λ x y. R y x) r l
each_flip no_more = no_more
each_flip (link e es) = link e (each_flip es)

pub all_each : {A : Type 0} {R : A → A → Type 0} {P Q : A → Type 0} → ((x y : A) → R x y → P x → Q y) → {l r : List A} → Each R l r → All P l → All Q r
all_each h no_more none = none
all_each h (link e es) (p also q) = h _ _ e p also all_each h es q

pub all_imp : {A : Type 0} {P Q : A → Type 0} → ((x : A) → P x → Q x) → {l : List A} → All P l → All Q l
all_imp h none = none
all_imp h (p also q) = h _ p also all_imp h q

pub all_both : {A : Type 0} {P Q : A → Type 0} {l : List A} → All P l → All Q l → All (λ x. P x × Q x) l
all_both none none = none
all_both (p also ps) (q also qs) = (p, q) also all_both ps qs

pub all_head : {A : Type 0} {P : A → Type 0} {x : A} {l : List A} → All P (x ∷ l) → P x
all_head (p also _) = p

pub any_each : {A : Type 0} {R : A → A → Type 0} {P Q : A → Type 0} → ((x y : A) → R x y → P x → Q y) → {l r : List A} → Each R l r → Any P l → Any Q r
any_each h (link e es) (here p) = here (h _ _ e p)
any_each h (link e es) (there p) = there (any_each h es p)
any_each {A = A} {R = R} {P = P} {Q = Q} h no_more x4 = elim x4 [ ]

pub any_imp : {A : Type 0} {P Q : A → Type 0} {l : List A} → ((x : A) → P x → Q x) → Any P l → Any Q l
any_imp h (here p) = here (h _ p)
any_imp h (there p) = there (any_imp h p)

pub any_all : {A : Type 0} {P Q : A → Type 0} {l : List A} → All P l → Any Q l → Any (λ x. P x × Q x) l
any_all (p also ps) (here q) = here (p, q)
any_all (p also ps) (there q) = there (any_all ps q)
any_all {A = A} {P = P} {Q = Q} none x3 = elim x3 [ ]

pub any_get : {A : Type 0} {P : A → Type 0} {Q : Type 0} {l : List A} → ((x : A) → P x → Q) → Any P l → Q
any_get f (here p) = f _ p
any_get f (there p) = any_get f p
