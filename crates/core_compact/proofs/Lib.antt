mod CompactAnswers
mod Frames
mod Nodes
