mod SpotLemmas
mod KeptLemmas
mod OpenLemmas
mod FeedLemmas
