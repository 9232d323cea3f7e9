mod InputLemmas
mod GivenLemmas
mod OutputLemmas
mod PanelLemmas
