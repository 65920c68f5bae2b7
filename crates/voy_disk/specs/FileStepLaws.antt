-- Laws that lead from a change of one file to the images that it leaves of the disk.
use Rattle.std.proofs.Common.{◌≡◌, ◌≢◌, ◌⊎◌, inl, inr, ℕ, List, [], Option, Some, None, refl, sym, ap, subst, ◌∙◌}
use Rattle.std.specs.Option.{option_map}
use Rattle.voy_disk.specs.Calls.{Changes, Created, Renamed, SyncFailed, Synced, or_empty}
use Rattle.voy_disk.specs.File.{File, IsImage, settled}
use Rattle.voy_disk.specs.FileLaws.{one_image}
use Rattle.voy_disk.specs.Files.{Files, ReadsImages}
use Rattle.voy_disk.specs.ImageLaws.{at_each_name, if_some_at, image_absent, image_there, is_image_at, now_at, with_file_elsewhere, with_file_there}
use Rattle.voy_disk.specs.Images.{Image, IsImageAt, absent, IsImageOf, Makes, Renames, SameBut, StepAt, with_file}
use Rattle.voy_disk.specs.Steps.{From, Follows, Same}

module _ (x y : Files) (name : List ℕ) where
  -- an image after, with the file of before in place of the changed one
  image_before : (j : Image) → ((other : List ℕ) → other ≢ name → y other ≡ x other) → IsImageOf y j
      → (file : Option (List ℕ)) → IsImageAt (x name) file → IsImageOf x (with_file j name file)
  image_before j others is file here = at_each_name (λ other. IsImageAt (x other) (with_file j name file other)) name
      (rw (with_file_there j name file) here)
      (λ other differs. rw (with_file_elsewhere j name file other differs, sym (others other differs)) (is other))

  -- a step of one file is a step of the disk
  pub follows_file : {R : File → File → Type 0} {step : List ℕ → List ℕ → Type 0} → Changes R name x y
      → ((f g : File) → x name ≡ Some f → R f g → Follows step (IsImage f) (IsImage g))
      → Follows (StepAt name step) (IsImageOf x) (IsImageOf y)
  follows_file change law = record {
    from = λ j is.
        let g = image_there (y name) (j name) change.after change.is (is name) in
        let f = (law change.before change.after change.was change.step).from g.bytes g.of_file in
        record {
          before = with_file j name (Some f.before);
          was = image_before j change.others is (Some f.before) (is_image_at (x name) change.before (Some f.before) f.before change.was refl f.was);
          by = record {
            before = f.before;
            after = g.bytes;
            was = with_file_there j name (Some f.before);
            is = g.is;
            by = f.by;
            others = λ other differs. sym (with_file_elsewhere j name (Some f.before) other differs);
          };
        };
  }

  -- where the changed file has no image that it did not have, the disk has none either
  pub same_images : {R : File → File → Type 0} → Changes R name x y
      → ((f g : File) → x name ≡ Some f → R f g → (bytes : List ℕ) → IsImage g bytes → IsImage f bytes)
      → Follows Same (IsImageOf x) (IsImageOf y)
  same_images change law = record {
    from = λ j is. record {
      before = j;
      was = at_each_name (λ other. IsImageAt (x other) (j other)) name
          (let g = image_there (y name) (j name) change.after change.is (is name) in is_image_at (x name) change.before (j name) g.bytes change.was g.is (law change.before change.after change.was change.step g.bytes g.of_file))
          (λ other differs. rw (sym (change.others other differs)) (is other));
      by = refl;
    };
  }

  -- a change of one file leaves the others in each image
  pub others_stay : {R : File → File → Type 0} → ReadsImages x → Changes R name x y
      → Follows (SameBut name) (IsImageOf x) (IsImageOf y)
  others_stay reads change = record {
    from = λ j is. record {
      before = with_file j name (option_map (λ (file : File). file.now) (x name));
      was = image_before j change.others is _ (now_at (x name) (reads name));
      by = λ other differs. sym (with_file_elsewhere j name _ other differs);
    };
  }

  -- after a sync each image is one of before
  pub synced_images : ReadsImages x → Changes Synced name x y → Follows Same (IsImageOf x) (IsImageOf y)
  synced_images reads change = same_images change (λ f g was synced bytes is.
      let reads_now : IsImage f f.now = if_some_at (λ file. IsImage file file.now) (x name) f was (reads name) in
      rw (one_image f.now bytes (subst (λ file. IsImage file bytes) synced is)) reads_now)

  pub sync_failed_images : Changes SyncFailed name x y → Follows Same (IsImageOf x) (IsImageOf y)
  sync_failed_images change = same_images change (λ f g was failed bytes is. failed.images bytes is)

  -- after a creation each image is one of before, or has the empty file more
  pub created_images : Created name x y → Follows (λ i j. Same i j ⊎ Makes name i j) (IsImageOf x) (IsImageOf y)
  created_images created = record { from = λ j is. by_file j is (x name) refl }
    where
      by_file : (j : Image) → IsImageOf y j → (found : Option File) → x name ≡ found
          → From (λ i k. Same i k ⊎ Makes name i k) (IsImageOf x) j
      by_file j is (Some file) was = record {
        before = j;
        was = at_each_name (λ other. IsImageAt (x other) (j other)) name
            (rw (was ∙ sym (created.is ∙ ap (λ found. Some (or_empty found)) was)) (is name))
            (λ other differs. rw (sym (created.others other differs)) (is other));
        by = inl refl;
      }
      by_file j is None free =
          let g = image_there (y name) (j name) (settled []) (created.is ∙ ap (λ found. Some (or_empty found)) free) (is name) in
          record {
            before = with_file j name None;
            was = image_before j created.others is None (rw free absent);
            by = inr (record {
              free = with_file_there j name None;
              is = g.is ∙ ap (λ bytes. Some bytes) (one_image [] g.bytes g.of_file);
              others = λ other differs. sym (with_file_elsewhere j name None other differs);
            });
          }

  -- what goes by another name goes by it in each image
  pub renamed_images : (to : List ℕ) → x to ≡ None → Renamed name to x y
      → Follows (Renames name to) (IsImageOf x) (IsImageOf y)
  renamed_images to free renamed = record {
    from = λ j is.
        let before = with_file (with_file j to None) name (j to) in
        let here : before name ≡ j to = with_file_there (with_file j to None) name (j to) in
        record {
          before = before;
          was = at_each_name (λ other. IsImageAt (x other) (before other)) name
              (rw (here, sym renamed.moved) (is to))
              (λ other differs. let elsewhere = with_file_elsewhere (with_file j to None) name (j to) other differs in rw elsewhere (at_each_name (λ third. third ≢ name → IsImageAt (x third) (with_file j to None third)) to
              (λ apart. rw (with_file_there j to None, free) absent)
              (λ third apart from_name. rw (with_file_elsewhere j to None third apart, sym (renamed.others third from_name apart)) (is third))
              other differs));
          by = record {
            moved = sym here;
            gone = image_absent (y name) (j name) renamed.gone (is name);
            others = λ other differs apart. sym (with_file_elsewhere (with_file j to None) name (j to) other differs ∙ with_file_elsewhere j to None other apart);
          };
        };
  }
