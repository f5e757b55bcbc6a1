-- The spots of a subchannel from the clusters of its group and its bases.
mod Row
