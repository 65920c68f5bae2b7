-- How the vectors of an arena hold its nodes.
use Rattle.std.specs.Prelude.{◌≡◌, ℕ, zero, suc, ◌+◌, ◌≤◌, List, [], ◌∷◌, length, take, slice_get, Option, Some, None}
use Rattle.voy_link.specs.Indices.{nowhere, place_at}
use Rattle.voy_link.specs.Links.{times, AreWithin}
use Rattle.voy_link.specs.Chains.{HasMembers, HasPlaces}
use Rattle.voy_link.specs.Arena.{Node, Contents}
use Rattle.voy_link.specs.declared.slots.Slot.{Slot}
use Rattle.voy_link.specs.declared.nodes.Nodes.{Nodes}

-- the node that a slot holds
abbrev pub node_in : {T : Type 0} → ℕ → Option (Option (Slot T)) → Option (Node T)
node_in id None = None
node_in id (Some None) = None
node_in id (Some (Some s)) = Some (record { id = id; bucket = s.bucket; lane = s.lane; item = s.item })

-- the node at this place
abbrev pub node_at : {T : Type 0} → List (Option (Slot T)) → ℕ → Option (Node T)
node_at slots id = node_in id (slice_get slots id)

-- this node in front of the rest, where there is one
abbrev pub onto : {T : Type 0} → Option (Node T) → List (Node T) → List (Node T)
onto None rest = []
onto (Some n) rest = n ∷ rest

-- the nodes from this place on, at most `most`
abbrev pub nodes_from : {T : Type 0} → ℕ → List (Option (Slot T)) → List ℕ → ℕ → List (Node T)
nodes_from zero slots nexts at = []
nodes_from (suc most) slots nexts at = onto (node_at slots at) (nodes_from most slots nexts (place_at nexts at))

-- the nodes, in order of insertion
abbrev pub nodes_of : {T : Type 0} → Nodes T → List (Node T)
nodes_of a = nodes_from a.total a.slots.items a.order.nexts.items (place_at a.order.firsts.items 0)

-- the nodes as members of lists by this key
abbrev pub by_key : {T : Type 0} → (Node T → ℕ) → List (Node T) → List (ℕ × ℕ)
by_key key [] = []
by_key key (n ∷ ns) = (n.id, key n) ∷ by_key key ns

-- all nodes have one key
abbrev pub no_key : {T : Type 0} → Node T → ℕ
no_key n = 0

-- the places that are free
abbrev pub free_members : List ℕ → List (ℕ × ℕ)
free_members [] = []
free_members (place ∷ places) = (place, 0) ∷ free_members places

-- each node stands in the slot of its id
abbrev pub AreLaid : {T : Type 0} → List (Option (Slot T)) → List (Node T) → Type 0
AreLaid slots [] = Unit {0}
AreLaid slots (n ∷ ns) = (node_at slots n.id ≡ Some n) × AreLaid slots ns

-- the vectors hold these nodes: each in its slot and in three lists, and each other place once among the free
pub record HasNodes {T : Type 0} (buckets lanes : ℕ) (a : Nodes T) (ns : List (Node T)) : Type 0 where
  pub total : length ns + a.spare ≡ a.total
  pub slots : a.total ≤ length a.slots.items
  pub slots_end : length a.slots.items ≤ nowhere
  pub free_room : a.total ≤ length a.free.items
  pub laid : AreLaid a.slots.items ns
  pub once : (place : ℕ) → times place (by_key no_key ns) + times place (free_members (take a.spare a.free.items)) ≤ 1
  pub free_within : AreWithin a.total 1 (free_members (take a.spare a.free.items))
  pub in_order : HasMembers a.total 1 a.order (by_key no_key ns)
  pub in_buckets : HasMembers a.total buckets a.buckets (by_key (λ n. n.bucket) ns)
  pub in_lanes : HasMembers a.total lanes a.lanes (by_key (λ n. n.lane) ns)

-- what contracts see of the vectors
abbrev pub contents_of : {T : Type 0} → Nodes T → Contents T
contents_of a = record { nodes = nodes_of a; spare = a.spare; buckets = length a.buckets.firsts.items; lanes = length a.lanes.firsts.items }

-- the vectors hold the nodes that they show
abbrev pub AreSound : {T : Type 0} → Nodes T → Type 0
AreSound a = HasNodes (length a.buckets.firsts.items) (length a.lanes.firsts.items) a (nodes_of a)

-- all vectors have this many places
pub record HasRoom {T : Type 0} (a : Nodes T) (places : ℕ) : Type 0 where
  pub order : HasPlaces a.order places
  pub buckets : HasPlaces a.buckets places
  pub lanes : HasPlaces a.lanes places
  pub slots : places ≤ length a.slots.items
  pub free : places ≤ length a.free.items
