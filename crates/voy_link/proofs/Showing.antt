-- What contracts see of the vectors after each call.
use Rattle.std.proofs.Common.{◌≡◌, ℕ, ◌+◌, ◌-◌, List, [], ◌∷◌, ◌++◌, length, Some, sym, ap, ◌∙◌, subst}
use Rattle.std.specs.Prelude.{Result, Ok, Err, IsSome, OnOk, OnErr}
use Rattle.std.specs.Option.{is_some}
use Rattle.voy_link.specs.Arena.{Node, Contents, node_of, without, inserted, removed, with_spare}
use Rattle.voy_link.specs.Nodes.{node_at, HasNodes, nodes_of, contents_of, AreSound}
use Rattle.voy_link.specs.declared.nodes.Nodes.{Nodes}
use Rattle.voy_link.proofs.Holding.{contents_shown, slot_of, value_of}

-- the vectors hold what they show, with other nodes than before
abbrev pub Holds : {T : Type 0} → Nodes T → Nodes T → List (Node T) → Type 0
Holds old new ns = HasNodes (length old.buckets.firsts.items) (length old.lanes.firsts.items) new ns

-- a node that contracts see stands in its slot
pub is_there : {T : Type 0} (a : Nodes T) (seen : Contents T) (id : ℕ) → AreSound a → contents_of a ≡ seen → IsSome (node_of seen.nodes id) → IsSome (node_of (nodes_of a) id)
is_there {T} a seen id holds shows some =
    let P : List (Node T) → Type 0 = λ ns. IsSome (node_of ns id) in subst P (sym (ap (λ c. c.nodes) shows)) some

pub has_slot : {T : Type 0} (a : Nodes T) (seen : Contents T) (id : ℕ) → AreSound a → contents_of a ≡ seen → IsSome (node_of seen.nodes id) → IsSome (node_at a.slots.items id)
has_slot {T} a seen id holds shows some =
    let found : (n : Node T) × (node_of (nodes_of a) id ≡ Some n) = value_of (node_of (nodes_of a) id) (is_there a seen id holds shows some) in
    ap is_some (slot_of a.slots.items (nodes_of a) id found.0 holds.laid found.1)

pub inserted_is : {T : Type 0} (a new : Nodes T) (seen : Contents T) (id bucket lane : ℕ) (item : T) → contents_of a ≡ seen → new.spare ≡ a.spare - 1
    → Holds a new (nodes_of a ++ record { id = id; bucket = bucket; lane = lane; item = item } ∷ []) → contents_of new ≡ inserted seen id bucket lane item
inserted_is a new seen id bucket lane item shows spare holds =
    contents_shown (length a.buckets.firsts.items) (length a.lanes.firsts.items) new _ holds ∙
    ap (λ s. record { nodes = nodes_of a ++ record { id = id; bucket = bucket; lane = lane; item = item } ∷ []; spare = s; buckets = length a.buckets.firsts.items; lanes = length a.lanes.firsts.items }) spare ∙
    ap (λ c. inserted c id bucket lane item) shows

pub removed_is : {T : Type 0} (a new : Nodes T) (seen : Contents T) (id : ℕ) → contents_of a ≡ seen → new.spare ≡ a.spare + 1 → Holds a new (without (nodes_of a) id)
    → contents_of new ≡ removed seen id
removed_is a new seen id shows spare holds =
    contents_shown (length a.buckets.firsts.items) (length a.lanes.firsts.items) new _ holds ∙
    ap (λ s. record { nodes = without (nodes_of a) id; spare = s; buckets = length a.buckets.firsts.items; lanes = length a.lanes.firsts.items }) spare ∙ ap (λ c. removed c id) shows

pub respaced : {T : Type 0} (a new : Nodes T) (seen : Contents T) (spare : ℕ) → contents_of a ≡ seen → new.spare ≡ spare → Holds a new (nodes_of a) → contents_of new ≡ with_spare seen spare
respaced a new seen spare shows is holds =
    contents_shown (length a.buckets.firsts.items) (length a.lanes.firsts.items) new _ holds ∙
    ap (λ s. record { nodes = nodes_of a; spare = s; buckets = length a.buckets.firsts.items; lanes = length a.lanes.firsts.items }) is ∙ ap (λ c. with_spare c spare) shows

-- what follows from a fact on one outcome
pub on_ok : {T E : Type 0} (r : Result T E) (P Q : Type 0) → (P → Q) → OnOk r P → OnOk r Q
on_ok (Ok x) P Q f p = f p
on_ok (Err e) P Q f p = p

pub on_err : {T E : Type 0} (r : Result T E) (P Q : Type 0) → (P → Q) → OnErr r P → OnErr r Q
on_err (Ok x) P Q f p = p
on_err (Err e) P Q f p = f p
