pub mod FilesTaken
