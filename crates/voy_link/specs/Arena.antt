-- What contracts see of an arena: its nodes, in order of insertion.
use Rattle.std.specs.Prelude.{ℕ, ◌+◌, ◌-◌, ◌==◌, not, List, [], ◌∷◌, ◌++◌, length, filter, slice_get, Option, Some, None, refl, if◌then◌else◌}
use Rattle.std.specs.Option.{option_map, option_and_then}
use Rattle.std.specs.Coded.{Coded, code_by, coded×, coded_ℕ, coded_list}

-- a node, known by its id
pub record Node (T : Type 0) : Type 0 where
  pub id : ℕ
  pub bucket : ℕ
  pub lane : ℕ
  pub item : T

-- the nodes in order of insertion, how many more can be inserted, and how many buckets and lanes there are
pub record Contents (T : Type 0) : Type 0 where
  pub nodes : List (Node T)
  pub spare : ℕ
  pub buckets : ℕ
  pub lanes : ℕ

-- a node is stored as its parts
abbrev pub node_code : {T : Type 0} → Coded T → Coded (Node T)
node_code {T} code =
    code_by (ℕ × (ℕ × (ℕ × T))) (coded× coded_ℕ (coded× coded_ℕ (coded× coded_ℕ code))) (λ n. (n.id, (n.bucket, (n.lane, n.item))))
    (λ p. record { id = p.0; bucket = p.1.0; lane = p.1.1.0; item = p.1.1.1 }) (λ _. refl)

-- so is what an arena has
abbrev pub contents_code : {T : Type 0} → Coded T → Coded (Contents T)
contents_code {T} code =
    code_by (List (Node T) × (ℕ × (ℕ × ℕ))) (coded× (coded_list (node_code code)) (coded× coded_ℕ (coded× coded_ℕ coded_ℕ)))
    (λ c. (c.nodes, (c.spare, (c.buckets, c.lanes)))) (λ p. record { nodes = p.0; spare = p.1.0; buckets = p.1.1.0; lanes = p.1.1.1 }) (λ _. refl)

-- no nodes, and room for so many
abbrev pub empty_contents : {T : Type 0} → ℕ → ℕ → ℕ → Contents T
empty_contents spare buckets lanes = record { nodes = []; spare = spare; buckets = buckets; lanes = lanes }

-- the node with this id, if there is one
abbrev pub node_of : {T : Type 0} → List (Node T) → ℕ → Option (Node T)
node_of [] id = None
node_of (n ∷ ns) id = if n.id == id then Some n else node_of ns id

-- the item of the node with this id
abbrev pub item_of : {T : Type 0} → List (Node T) → ℕ → Option T
item_of ns id = option_map (λ n. n.item) (node_of ns id)

-- all nodes but the one with this id
abbrev pub without : {T : Type 0} → List (Node T) → ℕ → List (Node T)
without ns id = filter (λ n. not (n.id == id)) ns

-- the nodes in front of the one with this id
abbrev pub nodes_before : {T : Type 0} → List (Node T) → ℕ → List (Node T)
nodes_before [] id = []
nodes_before (n ∷ ns) id = if n.id == id then [] else n ∷ nodes_before ns id

-- the nodes of a bucket
abbrev pub in_bucket : {T : Type 0} → List (Node T) → ℕ → List (Node T)
in_bucket ns bucket = filter (λ n. n.bucket == bucket) ns

-- the nodes of a lane
abbrev pub in_lane : {T : Type 0} → List (Node T) → ℕ → List (Node T)
in_lane ns lane = filter (λ n. n.lane == lane) ns

-- the id of the first node
abbrev pub first_id : {T : Type 0} → List (Node T) → Option ℕ
first_id ns = option_map (λ n. n.id) (slice_get ns 0)

-- the id of the last node
abbrev pub last_id : {T : Type 0} → List (Node T) → Option ℕ
last_id ns = option_map (λ n. n.id) (slice_get ns (length ns - 1))

-- the id of the node before this one in its bucket
abbrev pub prev_id : {T : Type 0} → List (Node T) → ℕ → Option ℕ
prev_id ns id = option_and_then (λ n. last_id (in_bucket (nodes_before ns id) n.bucket)) (node_of ns id)

-- the contents with one node more, behind all others
abbrev pub inserted : {T : Type 0} → Contents T → ℕ → ℕ → ℕ → T → Contents T
inserted c id bucket lane item = record {
  nodes = c.nodes ++ record { id = id; bucket = bucket; lane = lane; item = item } ∷ [];
  spare = c.spare - 1;
  buckets = c.buckets;
  lanes = c.lanes;
}

-- the contents without one node, which is spare then
abbrev pub removed : {T : Type 0} → Contents T → ℕ → Contents T
removed c id = record { nodes = without c.nodes id; spare = c.spare + 1; buckets = c.buckets; lanes = c.lanes }

-- the contents with other room
abbrev pub with_spare : {T : Type 0} → Contents T → ℕ → Contents T
with_spare c spare = record { nodes = c.nodes; spare = spare; buckets = c.buckets; lanes = c.lanes }
