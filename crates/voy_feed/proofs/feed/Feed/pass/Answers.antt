use Rattle.voy_feed.proofs.FeedLemmas.{same_limit, same_place}
use Rattle.voy_feed.proofs.feed.Feed.pass.Goals as goal

pub invariant_of-self : goal.invariant_of-self
invariant_of-self c = record {
  place = λ reader is. same_place _ reader _ _ is (c.offset-self.ensures _ c.requires.place) c.requires.place;
  limit = λ reader is. same_limit _ reader is c.requires.limit;
}
