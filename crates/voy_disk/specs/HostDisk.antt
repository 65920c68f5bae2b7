-- What contracts see of a real folder.
use Rattle.std.specs.Prelude.{◌≡◌, ℕ, Bool, true, List, ◌++◌, ◌∷◌, string_bytes}
use Rattle.std.specs.List.{list_any}
use Rattle.std.specs.Str.{bytes_eq}
use Rattle.voy_disk.specs.declared.host.disk.HostDisk.{HostDisk}

module _ {R OpenFile OpenDir : Type 0} where
  -- the path of the folder
  abbrev pub host_disk_folder : HostDisk R OpenFile OpenDir → List ℕ
  host_disk_folder disk = string_bytes disk.folder

  -- how many of its calls failed
  abbrev pub host_disk_faults : HostDisk R OpenFile OpenDir → ℕ
  host_disk_faults disk = disk.faults

  -- the path of a file: the folder, a slash and the name
  abbrev pub host_disk_path : HostDisk R OpenFile OpenDir → List ℕ → List ℕ
  host_disk_path disk name = host_disk_folder disk ++ (47 ∷ name)

  -- a write, a cut or a sync of the file of this name failed, or of one that it was made of by a renaming
  abbrev pub has_lost : HostDisk R OpenFile OpenDir → List ℕ → Bool
  has_lost disk name = list_any (λ lost. bytes_eq lost name) disk.lost.items

  -- no such failure is forgotten
  abbrev pub KeepsLost : HostDisk R OpenFile OpenDir → HostDisk R OpenFile OpenDir → Type 0
  KeepsLost old new = (name : List ℕ) → has_lost old name ≡ true → has_lost new name ≡ true
